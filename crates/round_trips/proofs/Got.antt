-- What is got again of an upload.
use Rattle.std.proofs.Common.{◌≡◌, ℕ, ◌<◌, List, [], length, cond, Option, Some, None, Result, Ok, Err, refl, sym, ap, subst, ◌∙◌, arith, lt-ltb}
use Rattle.octets.specs.Sharing.{IsSharing}
use Rattle.tag_hash.specs.Tagged.{tagged16}
use Rattle.erasure.specs.Code.{AreBytes}
use Rattle.caps.specs.Fields.{ReadValue}
use Rattle.caps.specs.Weakening.{verify_fields}
use Rattle.caps.specs.CapTexts.{IsCapText}
use Rattle.caps.specs.declared.cap.Cap.TheVariants.{Chk, DirChk}
use Rattle.children_reader.specs.Children.{made}
use Rattle.dir_codec.specs.DirectoryText.{directory_text}
use Rattle.dir_codec.specs.declared.entry.Entry.{Entry as Child}
use Rattle.chk_file.specs.Upload.{Upload, IsUpload, params, key_of, fields, upload_cap}
use Rattle.file_shares.specs.KeyTag.{key_tag}
use Rattle.chk_file.specs.Held.{uploaded_bytes}
use Rattle.chk_file.specs.Look.{by_held}
use Rattle.chk_file.specs.Sound.{IsSoundWorld}
use Rattle.chk_file.specs.World.{World, empty, after_upload}
use Rattle.web_ops.specs.Encoding.{upload_of}
use Rattle.web_replies.specs.Replies.{bytes_reply}
use Rattle.web_ops.specs.Answers.{with_bytes, made_reply}
use Rattle.web_ops.specs.Uploads.{as_directory, directory_upload, directory_cap, made_upload, upload_in, after_stored}
use Rattle.gate_core.specs.Settings.{GatewaySettings, encoding_in}
use Rattle.cap_binding.specs.Binds.{Binds}
use Rattle.client_core.specs.Asks.{meant}
use Rattle.client_core.specs.declared.ask.Ask.{Ask}
use Rattle.client_core.specs.declared.ask.Ask.TheVariants.{Put, Mkdir, Read}
use Rattle.client_core.specs.Given.{IsBoundAnswer, IsUnboundAnswer}
use Rattle.client_core.specs.declared.exchange.Answer.{Answer}
use Rattle.client_core.specs.declared.exchange.LinkFault.{LinkFault}
use Rattle.round_trips.specs.Honest.{as_answer, written_answer, IsWrittenAnswer, with_asked, LeadsOn, IsHonestExchange}
use Rattle.round_trips.specs.Stands.{IsSetUp, HasEnough, IsStanding, IsStandingFor, IsUnspoiled, AreOne}
use Rattle.round_trips.specs.Trips.{IsBody, GivesJust, GivesAgain, IsUnanswered, NamesCap}
use Rattle.round_trips.proofs.Standing.{OwnLaw, OneLaw, held_while, known_on, enough_for, stands_now, stands_first}
use Rattle.round_trips.proofs.Caps.{HashLaws, TextLaws, file_is_cap, directory_is_cap, names, long_cap, same_file, same_directory}

-- ---- one read

module _ (own : OwnLaw) (settings : GatewaySettings) (w : World) (v : Upload) (f : ReadValue) (named : fields v ≡ f) (some : 0 < length v.bytes) (stands : IsStanding v w) where
  found : uploaded_bytes w f ≡ Some v.bytes
  found = subst (λ (g : ReadValue). uploaded_bytes w g ≡ Some v.bytes) named (held_while v w stands)

  bound : Binds f v.bytes
  bound = subst (λ (g : ReadValue). Binds g v.bytes) named (own v some)

  -- the answer of an honest gateway in a world where the upload stands
  pub gives : (r : Result Answer LinkFault) → IsWrittenAnswer settings (by_held w) (Read f) [] r → GivesJust f v.bytes r
  gives (Ok answer) e =
      let is : answer ≡ record { status = 200; body = v.bytes } = e ∙ ap (λ (o : Option (List ℕ)). as_answer (with_bytes (bytes_reply (Some (verify_fields f)) None) o)) found in
      (ap (λ (a : Answer). a.status) is, sym (ap (λ (a : Answer). a.body) is), bound)
  gives (Err fault) e = tt

-- a client that takes bytes takes these, and it refuses no answer that came
pub just_these : (f : ReadValue) (bytes : List ℕ) (r : Result Answer LinkFault) → GivesJust f bytes r → (given : List ℕ) → IsBoundAnswer f r given → given ≡ bytes
just_these f bytes (Ok answer) h given taken = taken.1 ∙ sym h.1
just_these f bytes (Err fault) h given taken = absurd taken

pub none_refused : (f : ReadValue) (bytes : List ℕ) (r : Result Answer LinkFault) → GivesJust f bytes r → IsUnboundAnswer f r → IsUnanswered r
none_refused f bytes (Ok answer) h refused = refused h.0 (subst (Binds f) h.1 h.2)
none_refused f bytes (Err fault) h refused = tt

-- ---- by the book

pub first_trip : (settings : GatewaySettings) (bytes : List ℕ) → IsSetUp settings → IsBody bytes → 55 < length bytes
    → written_answer settings (Read (fields (upload_of (encoding_in settings) bytes))) [] (with_asked settings Put bytes empty) ≡ record { status = 200; body = bytes }
first_trip settings bytes set body long =
    let u : Upload = upload_of (encoding_in settings) bytes in
    let is : IsUpload u = record { sharing = set.sharing; some = omega arith; bytes = body.are_bytes } in
    let w : World = with_asked settings Put bytes empty in
    let put : w ≡ after_upload settings.servers u empty = ap (λ b. after_stored settings.servers (cond b (Some u) None) empty) (lt-ltb 55 (length bytes) long) in
    let stands : IsStanding u w = subst (IsStanding u) (sym put) (stands_first settings u set is long) in
    ap (λ (o : Option (List ℕ)). as_answer (with_bytes (bytes_reply (Some (verify_fields (fields u))) None) o)) (held_while u w stands)

-- ---- whatever gave the cap

abbrev pub TwoLaw : Type 0
TwoLaw = (f : ReadValue) (one other : List ℕ) → IsSharing f.k f.n → AreBytes f.key → AreBytes one → AreBytes other → Binds f one → Binds f other → AreOne f one other

abbrev pub KeyLaw : Type 0
KeyLaw = (tag value : List ℕ) → AreBytes (tagged16 tag value)

key_bytes : KeyLaw → (u : Upload) → AreBytes (key_of u)
unfolding key_of
key_bytes law u = law (key_tag (params u) u.secret) u.bytes

pub bound_back : OwnLaw → TwoLaw → KeyLaw → (settings : GatewaySettings) (w : World) (u : Upload) (bytes : List ℕ) (r : Result Answer LinkFault) → IsUpload u → AreBytes bytes → IsStanding u w
    → Binds (fields u) bytes → IsWrittenAnswer settings (by_held w) (Read (fields u)) [] r → GivesAgain (fields u) bytes r
bound_back own two key settings w u bytes r is are stands binds written = record {
  again = u.bytes;
  gives = gives own settings w u (fields u) refl is.some stands r written;
  same = two (fields u) u.bytes bytes is.sharing (key_bytes key u) is.bytes are (own u is.some) binds;
}

-- ---- from a put to a read

module _ {S : Type 0} (told : S → Ask → List ℕ → Result Answer LinkFault → S → Type 0) (settings : GatewaySettings) (world : S → World) (honest : IsHonestExchange settings world told) (set : IsSetUp settings) where
  module _ (own : OwnLaw) (one : OneLaw) where
    known_at : (u : Upload) (w later : World) → LeadsOn settings w later → w.files (fields u) ≡ Some u → later.files (fields u) ≡ Some u
    known_at u w later on known = subst (λ (t : World). t.files (fields u) ≡ Some u) (sym on.1) (known_on settings u (fields u) w on.0 known)

    -- whatever asks for the upload
    pub come_back : (u : Upload) (ask : Ask) (body : List ℕ) → upload_in (encoding_in settings) (meant ask body) ≡ Some u → IsUpload u → 55 < length u.bytes
        → (x y z v : S) (answer : Answer) (r : Result Answer LinkFault) → IsSoundWorld (world x) → IsUnspoiled u (world x) → told x ask body (Ok answer) y
        → LeadsOn settings (world y) (world z) → HasEnough u (world z) → told z (Read (fields u)) [] r v → GivesAgain (fields u) u.bytes r
    come_back u ask body asks is long x y z v answer r sound unspoiled put later enough read =
        let now : IsStandingFor u (after_upload settings.servers u (world x)) = stands_now own one settings u (world x) set is sound unspoiled long in
        let kept : Upload = now.upload in
        let stored : with_asked settings ask body (world x) ≡ after_upload settings.servers u (world x) = ap (λ (o : Option Upload). after_stored settings.servers o (world x)) asks in
        let first : (with_asked settings ask body (world x)).files (fields kept) ≡ Some kept = subst (λ (t : World). t.files (fields kept) ≡ Some kept) (sym stored) now.standing.known in
        let then : (world y).files (fields kept) ≡ Some kept = known_at kept (with_asked settings ask body (world x)) (world y) (honest.stored x ask body answer y put) first in
        let last : (world z).files (fields kept) ≡ Some kept = known_at kept (world y) (world z) later then in
        let stands : IsStanding kept (world z) = record { known = last; enough = enough_for u kept (world z) now.named enough } in
        let size : length kept.bytes ≡ length u.bytes = ap (λ (g : ReadValue). g.size) now.named in
        record {
          again = kept.bytes;
          gives = gives own settings (world z) kept (fields u) now.named (omega (arith, size, long)) stands r (honest.written z (Read (fields u)) [] r v read);
          same = now.same;
        }

  module _ (hash : HashLaws) (texts : TextLaws) where
    -- the answer to a put
    pub file_named : (bytes : List ℕ) (x y : S) (answer : Answer) → IsBody bytes → told x Put bytes (Ok answer) y → NamesCap answer (upload_cap (upload_of (encoding_in settings) bytes))
    file_named bytes x y answer body put =
        let u : Upload = upload_of (encoding_in settings) bytes in
        let is = honest.written x Put bytes (Ok answer) y put in
        names texts answer (upload_cap u) (file_is_cap hash u set.sharing body) (ap (λ (a : Answer). a.status) is) (ap (λ (a : Answer). a.body) is)

    pub directory_named : (entries : List Child) (json : List ℕ) (x y : S) (answer : Answer) → IsBody (directory_text entries) → made json ≡ Some entries → told x Mkdir json (Ok answer) y
        → NamesCap answer (directory_cap (encoding_in settings) entries)
    directory_named entries json x y answer body makes put =
        let u : Upload = directory_upload (encoding_in settings) entries in
        let is = honest.written x Mkdir json (Ok answer) y put ∙ ap (λ (o : Option (List Child)). as_answer (made_reply (encoding_in settings) o)) makes in
        names texts answer (as_directory (upload_cap u)) (directory_is_cap hash u set.sharing body) (ap (λ (a : Answer). a.status) is) (ap (λ (a : Answer). a.body) is)

    module _ (own : OwnLaw) (one : OneLaw) where
      -- that it is put under these fields, by what asks for it
      by_fields : (u : Upload) (ask : Ask) (body : List ℕ) → upload_in (encoding_in settings) (meant ask body) ≡ Some u → IsUpload u → 55 < length u.bytes
          → (x y z v : S) (answer : Answer) (f : ReadValue) (r : Result Answer LinkFault) → IsSoundWorld (world x) → IsUnspoiled u (world x) → told x ask body (Ok answer) y
          → LeadsOn settings (world y) (world z) → HasEnough u (world z) → f ≡ fields u → told z (Read f) [] r v → GivesAgain f u.bytes r
      by_fields u ask body asks is long x y z v answer f r sound unspoiled put later enough same read =
          subst (λ (g : ReadValue). GivesAgain g u.bytes r) (sym same)
          (come_back own one u ask body asks is long x y z v answer r sound unspoiled put later enough (subst (λ (g : ReadValue). told z (Read g) [] r v) same read))

      pub file_back : (bytes : List ℕ) (x y z v : S) (answer : Answer) (f : ReadValue) (r : Result Answer LinkFault) → IsBody bytes → 55 < length bytes → IsSoundWorld (world x)
          → IsUnspoiled (upload_of (encoding_in settings) bytes) (world x) → told x Put bytes (Ok answer) y → IsCapText (Chk f) answer.body
          → LeadsOn settings (world y) (world z) → HasEnough (upload_of (encoding_in settings) bytes) (world z) → told z (Read f) [] r v → GivesAgain f bytes r
      file_back bytes x y z v answer f r body long sound unspoiled put text later enough read =
          let u : Upload = upload_of (encoding_in settings) bytes in
          let is : IsUpload u = record { sharing = set.sharing; some = omega arith; bytes = body.are_bytes } in
          let same : f ≡ fields u = same_file f (fields u) ((file_named bytes x y answer body put).only (Chk f) text ∙ long_cap u long) in
          by_fields u Put bytes (ap (λ b. cond b (Some u) None) (lt-ltb 55 (length bytes) long)) is long x y z v answer f r sound unspoiled put later enough same read

      pub directory_back : (entries : List Child) (json : List ℕ) (x y z v : S) (answer : Answer) (f : ReadValue) (r : Result Answer LinkFault) → IsBody (directory_text entries)
          → made json ≡ Some entries → 55 < length (directory_text entries) → IsSoundWorld (world x)
          → IsUnspoiled (directory_upload (encoding_in settings) entries) (world x) → told x Mkdir json (Ok answer) y → IsCapText (DirChk f) answer.body
          → LeadsOn settings (world y) (world z) → HasEnough (directory_upload (encoding_in settings) entries) (world z) → told z (Read f) [] r v → GivesAgain f (directory_text entries) r
      directory_back entries json x y z v answer f r body makes long sound unspoiled put text later enough read =
          let u : Upload = directory_upload (encoding_in settings) entries in
          let is : IsUpload u = record { sharing = set.sharing; some = omega arith; bytes = body.are_bytes } in
          let same : f ≡ fields u = same_directory f (fields u) ((directory_named entries json x y answer body makes put).only (DirChk f) text ∙ ap as_directory (long_cap u long)) in
          let asks : upload_in (encoding_in settings) (meant Mkdir json) ≡ Some u =
          ap (made_upload (encoding_in settings)) makes ∙ ap (λ b. cond b (Some u) None) (lt-ltb 55 (length (directory_text entries)) long) in
          by_fields u Mkdir json asks is long x y z v answer f r sound unspoiled put later enough same read
