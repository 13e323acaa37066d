-- Uploads that stand after puts, and for how long.
use Rattle.std.proofs.Common.{◌≡◌, ◌⊎◌, inl, ℕ, ◌+◌, ◌<◌, ◌≤◌, List, [], ◌∷◌, length, Bool, true, false, cond, get_or, Option, Some, None, refl, sym, ap, subst, ◌∙◌, arith, lt-ltb, le-leb, eq-eqb}
use Rattle.std.specs.Prelude.{◌==◌, ◌&&◌, ◌++◌, nat_eq, nat_lt, unwrap_or, slice_index}
use Rattle.std.specs.Option.{option_map_or}
use Rattle.std.specs.List.{range_with_len, AllByRecursion}
use Rattle.std.specs.Ordering.{eq_by_cmp, nat_cmp}
use Rattle.std.specs.Cmp.Lexicographic.{slice_cmp, pointwise, bytes_decides, nat_list_cmp_total}
use Rattle.std.proofs.lemmas.Cmp.{eq_by_cmp_equiv}
use Rattle.std.proofs.lemmas.Nat.{mod_below}
use Rattle.std.proofs.lemmas.List.Folds.{list_any_at}
use Rattle.std.proofs.lemmas.List.FromFn.{length-range_with_len, get_or-range_with_len}
use Rattle.share_store.specs.Shares.{ShareKey}
use Rattle.grid.specs.Placement.{server_of}
use Rattle.erasure.specs.Code.{AreBytes}
use Rattle.caps.specs.Fields.{ReadValue}
use Rattle.caps.specs.StorageIndex.{index_of}
use Rattle.chk_file.specs.Upload.{Upload, IsUpload, fields, index}
use Rattle.file_shares.specs.Row.{most_servers}
use Rattle.chk_file.specs.Marks.{Mark, MarkRow, untouched, marks_of, put_marks}
use Rattle.chk_file.specs.Held.{has_none, is_untouched, stands_untouched, untouched_numbers, held_in, uploaded_bytes}
use Rattle.chk_file.specs.World.{World, empty, same_fields, with_file, after_upload, after_lose, after_spoil}
use Rattle.chk_file.specs.Sound.{IsFileAt, IsSoundWorld}
use Rattle.web_ops.specs.Uploads.{after_stored}
use Rattle.gate_core.specs.Settings.{GatewaySettings, under}
use Rattle.gate_core.specs.Items.{Entry, Asked, Lost, Spoiled}
use Rattle.gate_core.specs.Runs.{upload_by, after_entry, world_after}
use Rattle.cap_binding.specs.Binds.{Binds}
use Rattle.cap_binding.specs.Found.{HasCollision, bound_uses}
use Rattle.round_trips.specs.Stands.{IsSetUp, HasEnough, IsStanding, IsStandingFor, IsUnspoiled, Spares}
use Rattle.round_trips.proofs.Lists.{both_true, filter_more, any_more, all_pass}

-- ---- shares that stay

-- whether a share that may stand is there, and untouched
abbrev is_there : Option Mark → Bool
is_there o = option_map_or is_untouched o false

more_untouched : (m other : MarkRow) → ((server number : ℕ) → is_there (m server number) ≡ true → is_there (other server number) ≡ true)
    → (n : ℕ) → length (untouched_numbers n m) ≤ length (untouched_numbers n other)
more_untouched m other each n =
    filter_more (stands_untouched m) (stands_untouched other)
    (λ number. any_more (λ server. is_there (m server number)) (λ server. is_there (other server number)) (λ server. each server number) (range_with_len 0 most_servers))
    (range_with_len 0 n)

still_there : (put : Bool) (o : Option Mark) (v : Upload) → is_there o ≡ true → is_there (cond put (Some (unwrap_or o (untouched v))) o) ≡ true
still_there true None v e = cc
still_there true (Some mark) v e = e
still_there false o v e = e

-- after an upload that is too long for a cap
abbrev long_upload : ℕ → Upload → World → World
long_upload servers v w = record { files = with_file v w.files; marks = put_marks servers v w.marks }

enough_put : (servers : ℕ) (v u : Upload) (w : World) (b : Bool) → HasEnough u w → HasEnough u (cond b (long_upload servers v w) w)
enough_put servers v u w true h =
    let more = more_untouched (marks_of w.marks (index u)) (marks_of (put_marks servers v w.marks) (index u))
    (λ server number. still_there (eq_by_cmp (slice_cmp nat_cmp) (index u) (index v) && nat_lt number v.n && server == server_of servers (index v) number) (w.marks server (index u, number)) v) u.n in
    omega (arith, h, more)
enough_put servers v u w false h = h

enough_stored : (servers : ℕ) (o : Option Upload) (u : Upload) (w : World) → HasEnough u w → HasEnough u (after_stored servers o w)
enough_stored servers None u w h = h
enough_stored servers (Some v) u w h = enough_put servers v u w (nat_lt 55 (length v.bytes)) h

-- what the laws of losses say
abbrev pub LoseLaw : Type 0
LoseLaw = (server : ℕ) (key : ShareKey) (w : World) (si : List ℕ) → (si ≡ key.0 → ⊥) → marks_of (after_lose server key w).marks si ≡ marks_of w.marks si

abbrev pub SpoilLaw : Type 0
SpoilLaw = (server : ℕ) (key : ShareKey) (place : ℕ) (w : World) (si : List ℕ) → (si ≡ key.0 → ⊥) → marks_of (after_spoil server key place w).marks si ≡ marks_of w.marks si

abbrev enough_in : Upload → MarkRow → Type 0
enough_in u m = u.k ≤ length (untouched_numbers u.n m)

module _ (lose : LoseLaw) (spoil : SpoilLaw) (settings : GatewaySettings) (u : Upload) where
  enough_after : (x : Entry) (w : World) → Spares (index u) x → HasEnough u w → HasEnough u (after_entry settings x w)
  enough_after (Asked id secret item) w spares h = enough_stored settings.servers (upload_by (under settings secret) item) u w h
  enough_after (Lost server key) w spares h = subst (enough_in u) (sym (lose server key w (index u) spares)) h
  enough_after (Spoiled server key place) w spares h = subst (enough_in u) (sym (spoil server key place w (index u) spares)) h

  pub still_enough : (w : World) (entries : List Entry) → AllByRecursion (Spares (index u)) entries → HasEnough u w → HasEnough u (world_after settings w entries)
  still_enough w [] all h = h
  still_enough w (x ∷ more) all h = still_enough (after_entry settings x w) more all.1 (enough_after x w all.0 h)

-- ---- files that stay

still_known : (put : Bool) (o : Option Upload) (v u : Upload) → o ≡ Some u → cond put (Some (unwrap_or o v)) o ≡ Some u
still_known true o v u e = ap (λ (p : Option Upload). Some (unwrap_or p v)) e
still_known false o v u e = e

known_put : (servers : ℕ) (v u : Upload) (w : World) (f : ReadValue) (b : Bool) → w.files f ≡ Some u → (cond b (long_upload servers v w) w).files f ≡ Some u
known_put servers v u w f true e = still_known (same_fields f (fields v)) (w.files f) v u e
known_put servers v u w f false e = e

known_stored : (servers : ℕ) (o : Option Upload) (u : Upload) (w : World) (f : ReadValue) → w.files f ≡ Some u → (after_stored servers o w).files f ≡ Some u
known_stored servers None u w f e = e
known_stored servers (Some v) u w f e = known_put servers v u w f (nat_lt 55 (length v.bytes)) e

module _ (settings : GatewaySettings) (u : Upload) (f : ReadValue) where
  known_after : (x : Entry) (w : World) → w.files f ≡ Some u → (after_entry settings x w).files f ≡ Some u
  known_after (Asked id secret item) w e = known_stored settings.servers (upload_by (under settings secret) item) u w f e
  known_after (Lost server key) w e = e
  known_after (Spoiled server key place) w e = e

  pub known_on : (w : World) (entries : List Entry) → w.files f ≡ Some u → (world_after settings w entries).files f ≡ Some u
  known_on w [] e = e
  known_on w (x ∷ more) e = known_on (after_entry settings x w) more (known_after x w e)

-- ---- what is held

pub held_while : (u : Upload) (w : World) → IsStanding u w → uploaded_bytes w (fields u) ≡ Some u.bytes
held_while u w h =
    ap (λ (o : Option Upload). held_in o (marks_of w.marks (index u)) (fields u)) h.known
    ∙ ap (λ b. cond b (Some u.bytes) None) (le-leb u.k (length (untouched_numbers u.n (marks_of w.marks (index u)))) h.enough)

-- ---- what a put leaves

same_self : (f : ReadValue) → same_fields f f ≡ true
same_self f =
    let key : pointwise nat_eq f.key f.key ≡ true = (bytes_decides f.key f.key).1 refl in
    let ueb : pointwise nat_eq f.ueb f.ueb ≡ true = (bytes_decides f.ueb f.ueb).1 refl in
    both_true (pointwise nat_eq f.key f.key && pointwise nat_eq f.ueb f.ueb) ((f.k == f.k) && ((f.n == f.n) && (f.size == f.size)))
    (both_true (pointwise nat_eq f.key f.key) (pointwise nat_eq f.ueb f.ueb) key ueb)
    (both_true (f.k == f.k) ((f.n == f.n) && (f.size == f.size)) (eq-eqb f.k f.k refl) (both_true (f.n == f.n) (f.size == f.size) (eq-eqb f.n f.n refl) (eq-eqb f.size f.size refl)))

new_there : (o : Option Mark) (u : Upload) → ((mark : Mark) → o ≡ Some mark → has_none mark.toggles ≡ true) → has_none (unwrap_or o (untouched u)).toggles ≡ true
new_there None u h = refl
new_there (Some mark) u h = h mark refl

module _ (settings : GatewaySettings) (u : Upload) (w : World) (set : IsSetUp settings) (is : IsUpload u) (unspoiled : IsUnspoiled u w) where
  abbrev here : ℕ → ℕ
  here number = server_of settings.servers (index u) number

  abbrev put_at : ℕ → ℕ → Bool
  put_at server number = eq_by_cmp (slice_cmp nat_cmp) (index u) (index u) && nat_lt number u.n && server == here number

  at_home : (number : ℕ) → number < u.n → put_at (here number) number ≡ true
  at_home number below =
      both_true (eq_by_cmp (slice_cmp nat_cmp) (index u) (index u) && nat_lt number u.n) (here number == here number)
      (both_true (eq_by_cmp (slice_cmp nat_cmp) (index u) (index u)) (nat_lt number u.n) ((eq_by_cmp_equiv nat_list_cmp_total).refl (index u)) (lt-ltb number u.n below))
      (eq-eqb (here number) (here number) refl)

  there_now : (number : ℕ) → number < u.n → is_there (put_marks settings.servers u w.marks (here number) (index u, number)) ≡ true
  there_now number below =
      let old : Option Mark = w.marks (here number) (index u, number) in
      ap (λ b. is_there (cond b (Some (unwrap_or old (untouched u))) old)) (at_home number below)
      ∙ new_there old u (λ mark e. unspoiled (here number) number mark e)

  passes : (number : ℕ) → number < u.n → stands_untouched (marks_of (put_marks settings.servers u w.marks) (index u)) number ≡ true
  unfolding most_servers
  passes number below =
      let row : MarkRow = marks_of (put_marks settings.servers u w.marks) (index u) in
      let some : 1 ≤ settings.servers = set.some in
      let limit : settings.servers ≤ 256 = set.limit in
      let low : here number < settings.servers = mod_below (slice_index (index u) 15 + number) settings.servers (omega arith) in
      let long = length-range_with_len 0 256 in
      let at : get_or (range_with_len 0 256) (here number) 0 ≡ here number = get_or-range_with_len 0 256 (here number) 0 (omega (arith, low, limit)) ∙ omega arith in
      list_any_at (λ server. is_there (row server number)) (range_with_len 0 256) (here number) 0 (omega (arith, low, limit, long))
      (ap (λ server. is_there (row server number)) at ∙ there_now number below)

  pub enough_now : HasEnough u (long_upload settings.servers u w)
  enough_now =
      let all = all_pass (stands_untouched (marks_of (put_marks settings.servers u w.marks) (index u))) u.n passes in
      let enough = is.sharing.enough in
      omega (arith, all, enough)

  -- where no file has the fields
  pub stands_new : w.files (fields u) ≡ None → IsStanding u (long_upload settings.servers u w)
  stands_new none = record {
    known = ap (λ b. cond b (Some (unwrap_or (w.files (fields u)) u)) (w.files (fields u))) (same_self (fields u)) ∙ ap (λ (o : Option Upload). Some (unwrap_or o u)) none;
    enough = enough_now;
  }

abbrev enough_by : World → ReadValue → Type 0
enough_by w f = f.k ≤ length (untouched_numbers f.n (marks_of w.marks (index_of f.key)))

-- an upload with the same fields has enough shares where this one has
pub enough_for : (u v : Upload) (w : World) → fields v ≡ fields u → HasEnough u w → HasEnough v w
enough_for u v w named h = subst (enough_by w) (sym named) h

abbrev pub OwnLaw : Type 0
OwnLaw = (u : Upload) → 0 < length u.bytes → Binds (fields u) u.bytes

abbrev pub OneLaw : Type 0
OneLaw = (u : Upload) (bytes : List ℕ) → IsUpload u → AreBytes bytes → Binds (fields u) bytes → (bytes ≡ u.bytes) ⊎ HasCollision (bound_uses (fields u) bytes ++ bound_uses (fields u) u.bytes)

module _ (own : OwnLaw) (one : OneLaw) (settings : GatewaySettings) (u : Upload) (w : World) (set : IsSetUp settings) (is : IsUpload u) (sound : IsSoundWorld w) (unspoiled : IsUnspoiled u w) where
  stands_by : (o : Option Upload) → w.files (fields u) ≡ o → IsStandingFor u (long_upload settings.servers u w)
  stands_by None none = record { upload = u; named = refl; standing = stands_new settings u w set is unspoiled none; same = inl refl }
  stands_by (Some v) found =
      let at : IsFileAt (fields u) v = sound.files (fields u) v found in
      let after : World = long_upload settings.servers u w in
      record {
        upload = v;
        named = at.named;
        standing = record {
          known = ap after.files at.named ∙ still_known (same_fields (fields u) (fields u)) (w.files (fields u)) u v found;
          enough = enough_for u v after at.named (enough_now settings u w set is unspoiled);
        };
        same = one u v.bytes is at.upload.bytes (subst (λ (f : ReadValue). Binds f v.bytes) at.named (own v at.upload.some));
      }

  pub stands_now : 55 < length u.bytes → IsStandingFor u (after_upload settings.servers u w)
  stands_now long =
      subst (λ b. IsStandingFor u (cond b (long_upload settings.servers u w) w)) (sym (lt-ltb 55 (length u.bytes) long)) (stands_by (w.files (fields u)) refl)

pub stands_first : (settings : GatewaySettings) (u : Upload) → IsSetUp settings → IsUpload u → 55 < length u.bytes → IsStanding u (after_upload settings.servers u empty)
stands_first settings u set is long =
    let unspoiled : IsUnspoiled u empty = λ server number mark e. cc in
    subst (λ b. IsStanding u (cond b (long_upload settings.servers u empty) empty)) (sym (lt-ltb 55 (length u.bytes) long)) (stands_new settings u empty set is unspoiled refl)
