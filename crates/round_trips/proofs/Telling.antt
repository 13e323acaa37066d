-- What callers are told in a run in which something is put, and got again.
use Rattle.std.proofs.Common.{◌≡◌, ℕ, ◌<◌, List, [], ◌∷◌, ◌++◌, length, false, cond, Option, Some, None, refl, sym, ap, subst, ◌∙◌, arith, lt-ltb}
use Rattle.std.proofs.lemmas.List.{append_assoc}
use Rattle.http_edge.specs.Reply.{rendered}
use Rattle.caps.specs.Fields.{ReadValue}
use Rattle.caps.specs.Weakening.{verify_fields}
use Rattle.caps.specs.CapTexts.{IsCapText, cap_text}
use Rattle.caps.specs.declared.cap.Cap.TheVariants.{Chk, DirChk}
use Rattle.children_reader.specs.Children.{made}
use Rattle.dir_codec.specs.DirectoryText.{directory_text}
use Rattle.dir_codec.specs.declared.entry.Entry.{Entry as Child}
use Rattle.chk_file.specs.Upload.{Upload, IsUpload, fields, upload_cap}
use Rattle.chk_file.specs.Held.{uploaded_bytes}
use Rattle.chk_file.specs.Look.{by_held}
use Rattle.chk_file.specs.Sound.{IsSoundWorld}
use Rattle.chk_file.specs.World.{World, after_upload}
use Rattle.web_replies.specs.Replies.{bytes_reply, cap_reply}
use Rattle.web_ops.specs.Encoding.{Encoding}
use Rattle.web_ops.specs.Answers.{with_bytes, made_reply}
use Rattle.web_ops.specs.Uploads.{as_directory, directory_upload, directory_cap, made_upload, upload_in, after_stored}
use Rattle.gate_core.specs.Settings.{GatewaySettings, under, encoding_in}
use Rattle.gate_core.specs.Secrets.{upload_under}
use Rattle.gate_core.specs.Items.{Entry}
use Rattle.gate_base.specs.Browsers.{sent_reply}
use Rattle.gate_core.specs.Runs.{after_entry, world_after, told, said}
use Rattle.cap_binding.specs.Binds.{Binds}
use Rattle.client_core.specs.Asks.{meant, IsAsked}
use Rattle.client_core.specs.declared.ask.Ask.{Ask}
use Rattle.client_core.specs.declared.ask.Ask.TheVariants.{Put, Mkdir, Read}
use Rattle.round_trips.specs.Stands.{IsSetUp, HasEnough, IsStanding, IsStandingFor, IsUnspoiled, AreOne}
use Rattle.round_trips.specs.Trips.{IsBody}
use Rattle.round_trips.specs.Said.{head_asked, told_for}
use Rattle.round_trips.specs.Told.{entry_asked, IsToldWith, IsToldAgain}
use Rattle.round_trips.proofs.Items.{MeantLaw, said_of, stored_of}
use Rattle.round_trips.proofs.Standing.{OwnLaw, OneLaw, held_while, known_on, enough_for, stands_now}
use Rattle.round_trips.proofs.Caps.{HashLaws, TextLaws, file_is_cap, directory_is_cap, long_cap, same_file, same_directory}

-- ---- a run in two parts

after_both : (settings : GatewaySettings) (w : World) (xs ys : List Entry) → world_after settings w (xs ++ ys) ≡ world_after settings (world_after settings w xs) ys
after_both settings w [] ys = refl
after_both settings w (x ∷ xs) ys = after_both settings (after_entry settings x w) xs ys

said_both : (settings : GatewaySettings) (caller : ℕ) (w : World) (xs ys : List Entry)
    → said settings caller w (xs ++ ys) ≡ said settings caller w xs ++ said settings caller (world_after settings w xs) ys
said_both settings caller w [] ys = refl
said_both settings caller w (x ∷ xs) ys =
    let now : List ℕ = told settings (by_held w) caller x in
    let v : World = after_entry settings x w in
    ap (λ (t : List ℕ). now ++ t) (said_both settings caller v xs ys)
    ∙ sym (append_assoc now (said settings caller v xs) (said settings caller (world_after settings v xs) ys))

module _ (law : MeantLaw) (settings : GatewaySettings) (w : World) where
  -- what a client asks for is told in a run as it is written
  told_at : (before after : List Entry) (caller : ℕ) (secret host : List ℕ) (ask : Ask) (body : List ℕ) → IsAsked host ask body
      → said settings caller w (before ++ entry_asked caller secret host ask body ∷ after)
      ≡ said settings caller w before
      ++ (told_for (under settings secret) (by_held (world_after settings w before)) host ask body ++ said settings caller (after_entry settings (entry_asked caller secret host ask body) (world_after settings w before)) after)
  told_at before after caller secret host ask body is =
      let here : World = world_after settings w before in
      let x : Entry = entry_asked caller secret host ask body in
      let later : List ℕ = said settings caller (after_entry settings x here) after in
      said_both settings caller w before (x ∷ after)
      ∙ ap (λ (t : List ℕ). said settings caller w before ++ (t ++ later)) (said_of law settings (by_held here) caller secret host ask body is)

  pub put_told : (before after : List Entry) (caller : ℕ) (secret host bytes : List ℕ) → IsAsked host Put bytes
      → IsToldWith settings caller w before (head_asked host Put bytes) (entry_asked caller secret host Put bytes) after (cap_reply (upload_cap (upload_under settings secret bytes)))
  put_told before after caller secret host bytes is = told_at before after caller secret host Put bytes is

  pub made_told : (before after : List Entry) (caller : ℕ) (secret host json : List ℕ) (entries : List Child) → made json ≡ Some entries → IsAsked host Mkdir json
      → IsToldWith settings caller w before (head_asked host Mkdir json) (entry_asked caller secret host Mkdir json) after (cap_reply (directory_cap (encoding_in (under settings secret)) entries))
  made_told before after caller secret host json entries makes is =
      let x : Entry = entry_asked caller secret host Mkdir json in
      let later : List ℕ = said settings caller (after_entry settings x (world_after settings w before)) after in
      told_at before after caller secret host Mkdir json is
      ∙ ap (λ (o : Option (List Child)). said settings caller w before ++ (rendered (sent_reply settings.for_browsers (head_asked host Mkdir json) (made_reply (encoding_in (under settings secret)) o)) false false ++ later)) makes

  module _ (own : OwnLaw) (one : OneLaw) (set : IsSetUp settings) where
    -- whatever asks for the upload
    module _ (before between : List Entry) (putter : ℕ) (secret host : List ℕ) (ask : Ask) (body : List ℕ) (asked : IsAsked host ask body) (u : Upload)
        (asks : upload_in (encoding_in (under settings secret)) (meant ask body) ≡ Some u) (is : IsUpload u) (long : 55 < length u.bytes) where
      abbrev put : Entry
      put = entry_asked putter secret host ask body

      abbrev here : World
      here = world_after settings w before

      abbrev there : World
      there = world_after settings w (before ++ put ∷ between)

      stored : after_entry settings put here ≡ after_upload settings.servers u here
      stored = stored_of law settings here putter secret host ask body asked ∙ ap (λ (o : Option Upload). after_stored settings.servers o here) asks

      -- what stands for it after the put stands for it later
      stands_there : (now : IsStandingFor u (after_upload settings.servers u here)) → HasEnough u there → IsStanding now.upload there
      stands_there now enough =
          let kept : Upload = now.upload in
          let first : (after_entry settings put here).files (fields kept) ≡ Some kept = subst (λ (t : World). t.files (fields kept) ≡ Some kept) (sym stored) now.standing.known in
          let last = known_on settings kept (fields kept) (after_entry settings put here) between first in
          record {
            known = subst (λ (t : World). t.files (fields kept) ≡ Some kept) (sym (after_both settings w before (put ∷ between))) last;
            enough = enough_for u kept there now.named enough;
          }

      got_again : (later : List Entry) (reader : ℕ) (other its : List ℕ) (f : ReadValue) → IsAsked its (Read f) [] → IsSoundWorld here → IsUnspoiled u here
          → f ≡ fields u → HasEnough u there → IsToldAgain settings reader w (before ++ put ∷ between) (head_asked its (Read f) []) (entry_asked reader other its (Read f) []) later f u.bytes
      got_again later reader other its f get sound unspoiled same enough =
          let now : IsStandingFor u (after_upload settings.servers u here) = stands_now own one settings u here set is sound unspoiled long in
          let kept : Upload = now.upload in
          let stands : IsStanding kept there = stands_there now enough in
          let named : fields kept ≡ f = now.named ∙ sym same in
          let found : uploaded_bytes there f ≡ Some kept.bytes = subst (λ (g : ReadValue). uploaded_bytes there g ≡ Some kept.bytes) named (held_while kept there stands) in
          let size : length kept.bytes ≡ length u.bytes = ap (λ (g : ReadValue). g.size) now.named in
          let x : Entry = entry_asked reader other its (Read f) [] in
          let after : List ℕ = said settings reader (after_entry settings x there) later in
          record {
            again = kept.bytes;
            told = told_at (before ++ put ∷ between) later reader other its (Read f) [] get
                ∙ ap (λ (o : Option (List ℕ)). said settings reader w (before ++ put ∷ between) ++ (rendered (sent_reply settings.for_browsers (head_asked its (Read f) []) (with_bytes (bytes_reply (Some (verify_fields f)) None) o)) false false ++ after)) found;
            bound = subst (λ (g : ReadValue). Binds g kept.bytes) named (own kept (omega (arith, size, long)));
            same = subst (λ (g : ReadValue). AreOne g kept.bytes u.bytes) (sym same) now.same;
          }

    module _ (hash : HashLaws) (texts : TextLaws) (before between after : List Entry) (putter reader : ℕ) (secret other host its : List ℕ) where
      pub file_told_again : (bytes : List ℕ) (f : ReadValue) → let u = upload_under settings secret bytes in let x = entry_asked putter secret host Put bytes in
          IsBody bytes → 55 < length bytes → IsAsked host Put bytes → IsAsked its (Read f) [] → IsSoundWorld (world_after settings w before)
          → IsUnspoiled u (world_after settings w before) → IsCapText (Chk f) (cap_text (upload_cap u)) → HasEnough u (world_after settings w (before ++ x ∷ between))
          → IsToldAgain settings reader w (before ++ x ∷ between) (head_asked its (Read f) []) (entry_asked reader other its (Read f) []) after f bytes
      file_told_again bytes f body long asked get sound unspoiled text enough =
          let u : Upload = upload_under settings secret bytes in
          let is : IsUpload u = record { sharing = set.sharing; some = omega (arith, long); bytes = body.are_bytes } in
          let asks : upload_in (encoding_in (under settings secret)) (meant Put bytes) ≡ Some u = ap (λ b. cond b (Some u) None) (lt-ltb 55 (length bytes) long) in
          let cap : Chk f ≡ upload_cap u = texts.alike (cap_text (upload_cap u)) (Chk f) (upload_cap u) text (texts.some (upload_cap u) (file_is_cap hash u set.sharing body)) in
          got_again before between putter secret host Put bytes asked u asks is long after reader other its f get sound unspoiled (same_file f (fields u) (cap ∙ long_cap u long)) enough

      pub directory_told_again : (entries : List Child) (json : List ℕ) (f : ReadValue) → let e = encoding_in (under settings secret) in let u = directory_upload e entries in
          let x = entry_asked putter secret host Mkdir json in
          IsBody (directory_text entries) → made json ≡ Some entries → 55 < length (directory_text entries) → IsAsked host Mkdir json → IsAsked its (Read f) []
          → IsSoundWorld (world_after settings w before) → IsUnspoiled u (world_after settings w before) → IsCapText (DirChk f) (cap_text (directory_cap e entries))
          → HasEnough u (world_after settings w (before ++ x ∷ between))
          → IsToldAgain settings reader w (before ++ x ∷ between) (head_asked its (Read f) []) (entry_asked reader other its (Read f) []) after f (directory_text entries)
      directory_told_again entries json f body makes long asked get sound unspoiled text enough =
          let e : Encoding = encoding_in (under settings secret) in
          let u : Upload = directory_upload e entries in
          let is : IsUpload u = record { sharing = set.sharing; some = omega (arith, long); bytes = body.are_bytes } in
          let asks : upload_in e (meant Mkdir json) ≡ Some u = ap (made_upload e) makes ∙ ap (λ b. cond b (Some u) None) (lt-ltb 55 (length (directory_text entries)) long) in
          let cap : DirChk f ≡ directory_cap e entries = texts.alike (cap_text (directory_cap e entries)) (DirChk f) (directory_cap e entries) text
          (texts.some (directory_cap e entries) (directory_is_cap hash u set.sharing body)) in
          got_again before between putter secret host Mkdir json asked u asks is long after reader other its f get sound unspoiled
          (same_directory f (fields u) (cap ∙ ap as_directory (long_cap u long))) enough
