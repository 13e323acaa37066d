-- What stands at each place where each store was left at a call of its own.
use Rattle.std.proofs.Common.{◌≡◌, ℕ, ◌<◌, Bool, true, false, cond, ◌&&◌, List, [], ◌∷◌, length, Option, Some, None, slice_get, get_or, Ok, Err, refl, sym, ap, subst, ◌∙◌, arith, inl, inr, eq-eqb}
use Rattle.std.specs.Prelude.{◌⊎◌, ◌==◌, nat_lt, unwrap_or, option_and_then}
use Rattle.std.specs.Option.{option_map}
use Rattle.std.specs.List.{AllByRecursion}
use Rattle.std.specs.Rc.{rc_slice_items}
use Rattle.std.specs.Ordering.{eq_by_cmp, nat_cmp}
use Rattle.std.specs.Cmp.Lexicographic.{slice_cmp, nat_list_cmp_total}
use Rattle.std.specs.Cmp.{eq_by_cmp_equiv}
use Rattle.std.specs.FinMap.{get, insert, contains_key, get-insert, get-remove}
use Rattle.std.proofs.lemmas.Bool.{lt-ltb, ltb-true, ltb-false}
use Rattle.std.proofs.lemmas.List.{set_past}
use Rattle.std.proofs.lemmas.List.FromFn.{length-map-range_with_len, get_or-map-range_with_len}
use Rattle.std.proofs.lemmas.Map.Views.{tells_apart}
use Rattle.std.proofs.lemmas.Option.{slice_get_within, slice_get-get_or}
use Rattle.share_store.specs.Shares.{Shares, ShareKey, key_cmp}
use Rattle.share_store.specs.MapLaws.{key_cmp_total, key_cmp_exact}
use Rattle.share_store.specs.Put.{put_once}
use Rattle.share_store.specs.Toggle.{toggled, with_toggle, has_byte, bytes_at}
use Rattle.share_shelf.specs.CrashStates.{IsEither}
use Rattle.kept_store.specs.Calls.{done, after_call, MayBeLeft}
use Rattle.kept_store.specs.declared.calls.Call.{Call}
use Rattle.kept_store.specs.declared.calls.Call.TheVariants.{Put, Lose, Toggle}
use Rattle.grid.specs.Standing.{Standing, standing}
use Rattle.grid.specs.Placement.{server_of, placed}
use Rattle.dir_codec.specs.declared.entry.Entry.{Entry as Child}
use Rattle.children_reader.specs.Children.{made}
use Rattle.chk_file.specs.Upload.{Upload, index, share_of, shares_of}
use Rattle.chk_file.specs.Marks.{shown, put_marks}
use Rattle.chk_file.specs.World.{World, with_file}
use Rattle.http_edge.specs.declared.item.Item.{Item}
use Rattle.http_edge.specs.declared.item.Item.TheVariants.{Request as RequestItem, Continue, Fault}
use Rattle.web_request.specs.declared.request.Request.{Request}
use Rattle.web_request.specs.declared.request.Request.TheVariants.{Put as PutRequest, Mkdir, Get, Check}
use Rattle.web_ops.specs.Encoding.{Encoding, upload_of}
use Rattle.web_ops.specs.Uploads.{if_long, directory_upload, made_upload, upload_in, after_stored}
use Rattle.gate_core.specs.Settings.{GatewaySettings, under, encoding_in}
use Rattle.gate_base.specs.Requests.{Interpreted, asked_of}
use Rattle.gate_core.specs.Items.{Entry, Asked, Lost, Spoiled}
use Rattle.gate_core.specs.Runs.{upload_asked, upload_by, after_entry}
use Rattle.restarts.specs.CutOff.{IsCutOff}
use Rattle.restarts.specs.Stores.{IsPutOf, ArePutsOf, IsLeftAt, AreLeft}
use Rattle.restarts.proofs.Ends.{PutLaw, LostLaw, SpoiledLaw}

-- ---- what is uploaded is too long to stand in a cap

long_if : (v u : Upload) → if_long v ≡ Some u → nat_lt 55 (length u.bytes) ≡ true
long_if v u is = by_case (nat_lt 55 (length v.bytes)) refl is
  where
    by_case : (b : Bool) → nat_lt 55 (length v.bytes) ≡ b → cond b (Some v) None ≡ Some u → nat_lt 55 (length u.bytes) ≡ true
    by_case true long e = ap (λ (o : Option Upload). nat_lt 55 (length (unwrap_or o v).bytes)) (sym e) ∙ long
    by_case false short e = cc

long_made : (e : Encoding) (o : Option (List Child)) (u : Upload) → made_upload e o ≡ Some u → nat_lt 55 (length u.bytes) ≡ true
long_made e None u is = cc
long_made e (Some children) u is = long_if (directory_upload e children) u is

long_in : (e : Encoding) (request : Request) (u : Upload) → upload_in e request ≡ Some u → nat_lt 55 (length u.bytes) ≡ true
long_in e (PutRequest bytes) u is = long_if (upload_of e bytes) u is
long_in e (Mkdir json) u is = long_made e (made json) u is
long_in e (Get cap names json head_only range) u is = cc
long_in e (Check cap names verify) u is = cc

long_asked : (e : Encoding) (asked : Interpreted) (u : Upload) → upload_asked e asked ≡ Some u → nat_lt 55 (length u.bytes) ≡ true
long_asked e (Ok request) u is = long_in e request u is
long_asked e (Err fault) u is = cc

pub long_by : (settings : GatewaySettings) (item : Item) (u : Upload) → upload_by settings item ≡ Some u → nat_lt 55 (length u.bytes) ≡ true
unfolding upload_by
long_by settings (RequestItem head body close) u is = long_asked (encoding_in settings) (asked_of head body) u is
long_by settings Continue u is = cc
long_by settings (Fault fault head_only) u is = cc

-- ---- one store

none_there : (m : Shares) (key : ShareKey) → contains_key m key ≡ false → get m key ≡ None
none_there m key is = by_case (get m key) is
  where
    by_case : (o : Option (List ℕ)) → (let t : Bool = elim o [ None ↦ false | Some x ↦ true ] in t) ≡ false → o ≡ None
    by_case None e = refl
    by_case (Some x) e = cc

module _ (servers s : ℕ) (u : Upload) where
  -- a share of the upload stands where none stood, at its server
  abbrev pub IsBrought : Shares → Shares → ShareKey → Type 0
  IsBrought m c q = (get m q ≡ None) × ((get c q ≡ Some (share_of u q.1)) × ((q.0 ≡ index u) × ((q.1 < u.n) × (server_of servers (index u) q.1 ≡ s))))

  abbrev pub IsStep : Shares → Shares → ShareKey → Type 0
  IsStep m c q = (get c q ≡ get m q) ⊎ IsBrought m c q

  step : (call : Call) → IsPutOf servers s u call → (m : Shares) (q : ShareKey) → IsStep m (done call m) q
  step (Put si number bytes) is m q = by_stands (contains_key m (si, number)) refl
    where
      key : ShareKey
      key = (si, number)

      new : List ℕ
      new = rc_slice_items bytes

      by_key : contains_key m key ≡ false → (t : Bool) → eq_by_cmp key_cmp q key ≡ t → IsStep m (put_once m key new) q
      by_key none false far = inl (ap (λ b. get (cond b m (insert m key new)) q) none ∙ get-insert key_cmp_total m key new q ∙ ap (λ t. cond t (Some new) (get m q)) far)
      by_key none true on =
          let same : q ≡ key = tells_apart key_cmp_exact q key on in
          let at : number ≡ q.1 = sym (ap (λ (k : ShareKey). k.1) same) in
          inr (
            ap (get m) same ∙ none_there m key none,
            (
              ap (λ b. get (cond b m (insert m key new)) q) none ∙ get-insert key_cmp_total m key new q ∙ ap (λ t. cond t (Some new) (get m q)) on ∙ ap Some is.1.1.1 ∙ ap (λ i. Some (share_of u i)) at,
              (
                ap (λ (k : ShareKey). k.0) same ∙ is.0,
                (subst (λ i. i < u.n) at is.1.0, subst (λ i. server_of servers (index u) i ≡ s) at is.1.1.0),
              ),
            ),
          )

      by_stands : (t : Bool) → contains_key m key ≡ t → IsStep m (put_once m key new) q
      by_stands true there = inl (ap (λ b. get (cond b m (insert m key new)) q) there)
      by_stands false none = by_key none (eq_by_cmp key_cmp q key) refl
  step (Lose si number) is m q = absurd is
  step (Toggle si number place) is m q = absurd is

  answered_step : (call : Call) → IsPutOf servers s u call → (ok : Bool) (m : Shares) (q : ShareKey) → IsStep m (after_call call ok m) q
  answered_step call is true m q = step call is m q
  answered_step call is false m q = inl refl

  either_step : (call : Call) → IsPutOf servers s u call → (m c : Shares) → IsEither m (done call m) c → (q : ShareKey) → IsStep m c q
  either_step call is m c (inl was) q = inl (ap (λ n. get n q) was)
  either_step call is m c (inr now) q = subst (λ (n : Shares). IsStep m n q) (sym now) (step call is m q)

  -- a step after another
  join : (m n c : Shares) (q : ShareKey) → IsStep m n q → IsStep n c q → IsStep m c q
  join m n c q (inl one) (inl two) = inl (two ∙ one)
  join m n c q (inr one) (inl two) = inr (one.0, (two ∙ one.1.0, one.1.1))
  join m n c q (inl one) (inr two) = inr (sym one ∙ two.0, two.1)
  join m n c q (inr one) (inr two) = let clash : (let none : Option (List ℕ) = None in none) ≡ Some (share_of u q.1) = sym two.0 ∙ one.1.0 in cc

  pub all_steps : (calls : List Call) (oks : List Bool) (m c : Shares) → AllByRecursion (IsPutOf servers s u) calls → MayBeLeft calls oks m c → (q : ShareKey) → IsStep m c q
  all_steps [] oks m c all is q = inl (ap (λ n. get n q) is)
  all_steps (call ∷ calls) [] m c all is q = either_step call all.0 m c is q
  all_steps (call ∷ calls) (ok ∷ oks) m c all (inl now) q = either_step call all.0 m c now q
  all_steps (call ∷ calls) (ok ∷ oks) m c all (inr later) q =
      join m (after_call call ok m) c q (answered_step call all.0 ok m q) (all_steps calls oks (after_call call ok m) c all.1 later q)

-- at most one call
once : (call : Call) (oks : List Bool) (m c : Shares) → MayBeLeft (call ∷ []) oks m c → IsEither m (done call m) c
once call [] m c is = is
once call (ok ∷ oks) m c (inl now) = now
once call (true ∷ oks) m c (inr later) = inr later
once call (false ∷ oks) m c (inr later) = inl later

-- what a map has after a bit was changed
get-toggle : (m : Shares) (key : ShareKey) (place : ℕ) (q : ShareKey) → get (with_toggle m key place) q ≡ cond (eq_by_cmp key_cmp q key) (option_map (λ bytes. toggled bytes place) (get m q)) (get m q)
get-toggle m key place q = by_key (eq_by_cmp key_cmp q key) refl
  where
    there : Bool → Shares
    there b = cond b (insert m key (toggled (bytes_at m key) place)) m

    by_far : (b : Bool) → eq_by_cmp key_cmp q key ≡ false → get (there b) q ≡ get m q
    by_far true far = get-insert key_cmp_total m key (toggled (bytes_at m key) place) q ∙ ap (λ t. cond t (Some (toggled (bytes_at m key) place)) (get m q)) far
    by_far false far = refl

    by_long : (x : List ℕ) → get m key ≡ Some x → (b : Bool) → nat_lt place (length x) ≡ b → eq_by_cmp key_cmp q key ≡ true → q ≡ key
        → get (there b) q ≡ Some (toggled x place)
    by_long x is true long on same =
        get-insert key_cmp_total m key (toggled (bytes_at m key) place) q ∙ ap (λ t. cond t (Some (toggled (bytes_at m key) place)) (get m q)) on
        ∙ ap (λ (o : Option (List ℕ)). Some (toggled (unwrap_or o []) place)) is
    by_long x is false short on same = ap (get m) same ∙ is ∙ ap Some (sym (set_past x place _ (ltb-false place (length x) short)))

    by_none : get m key ≡ None → q ≡ key → (b : Bool) → nat_lt place 0 ≡ b → get (there b) q ≡ None
    by_none is same true lt = let past : place < 0 = ltb-true place 0 lt in absurd (omega arith)
    by_none is same false lt = ap (get m) same ∙ is

    by_stood : (o : Option (List ℕ)) → get m key ≡ o → eq_by_cmp key_cmp q key ≡ true → q ≡ key → get (there (nat_lt place (length (unwrap_or o [])))) q ≡ option_map (λ bytes. toggled bytes place) o
    by_stood None is on same = by_none is same (nat_lt place 0) refl
    by_stood (Some x) is on same = by_long x is (nat_lt place (length x)) refl on same

    by_key : (t : Bool) → eq_by_cmp key_cmp q key ≡ t → get (there (has_byte m key place)) q ≡ cond t (option_map (λ bytes. toggled bytes place) (get m q)) (get m q)
    by_key false far = by_far (has_byte m key place) far
    by_key true on =
        let same : q ≡ key = tells_apart key_cmp_exact q key on in
        by_stood (get m key) refl on same ∙ ap (λ k. option_map (λ bytes. toggled bytes place) (get m k)) (sym same)

-- ---- all servers

module _ (maps left : List Shares) (same : length left ≡ length maps) (s : ℕ) (q : ShareKey) where
  -- what holds of each two stores of a server holds of what stands there
  pub at_server : (P : Option (List ℕ) → Option (List ℕ) → Type 0) → P None None → ((m c : Shares) → slice_get maps s ≡ Some m → slice_get left s ≡ Some c → P (get m q) (get c q))
      → P (standing maps s q) (standing left s q)
  at_server P neither both = by_case (slice_get maps s) (slice_get left s) refl refl
    where
      by_case : (a b : Option Shares) → slice_get maps s ≡ a → slice_get left s ≡ b → P (option_and_then (λ (m : Shares). get m q) a) (option_and_then (λ (c : Shares). get c q) b)
      by_case None None here there = neither
      by_case (Some m) (Some c) here there = both m c here there
      by_case (Some m) None here there =
          let lt : s < length maps = slice_get_within maps s m here in
          let some : slice_get left s ≡ Some (get_or left s m) = slice_get-get_or left s m (omega (arith, same)) in
          let clash : (let none : Option Shares = None in none) ≡ Some (get_or left s m) = sym there ∙ some in cc
      by_case None (Some c) here there =
          let lt : s < length left = slice_get_within left s c there in
          let some : slice_get maps s ≡ Some (get_or maps s c) = slice_get-get_or maps s c (omega (arith, same)) in
          let clash : (let none : Option Shares = None in none) ≡ Some (get_or maps s c) = sym here ∙ some in cc

-- a share that was brought is one that the upload places
module _ (servers s : ℕ) (u : Upload) (before : Standing) (q : ShareKey) where
  long : length (shares_of u) ≡ u.n
  long = length-map-range_with_len (share_of u) 0 u.n

  brought_there : before s q ≡ None → q.0 ≡ index u → q.1 < u.n → server_of servers (index u) q.1 ≡ s → placed servers (index u) (shares_of u) before s q ≡ Some (share_of u q.1)
  brought_there none same lt at =
      ap (λ (i : List ℕ). put (eq_by_cmp (slice_cmp nat_cmp) i (index u) && nat_lt q.1 (length (shares_of u)) && s == server_of servers (index u) q.1)) same
      ∙ ap (λ b. put (b && nat_lt q.1 (length (shares_of u)) && s == server_of servers (index u) q.1)) ((eq_by_cmp_equiv nat_list_cmp_total).refl (index u))
      ∙ ap (λ b. put (b && s == server_of servers (index u) q.1)) (lt-ltb q.1 (length (shares_of u)) (omega (arith, long)))
      ∙ ap put (eq-eqb s (server_of servers (index u) q.1) (sym at))
      ∙ ap (λ (o : Option (List ℕ)). Some (unwrap_or o (unwrap_or (slice_get (shares_of u) q.1) []))) none
      ∙ ap (λ (o : Option (List ℕ)). Some (unwrap_or o [])) (slice_get-get_or (shares_of u) q.1 [] (omega (arith, long)))
      ∙ ap Some (get_or-map-range_with_len (share_of u) 0 u.n q.1 q.1 [] lt (omega arith))
    where
      put : Bool → Option (List ℕ)
      put b = cond b (Some (unwrap_or (before s q) (unwrap_or (slice_get (shares_of u) q.1) []))) (before s q)

-- what stands is what stood, or what stands after the item
abbrev IsOne : GatewaySettings → World → Entry → ℕ → ShareKey → Option (List ℕ) → Option (List ℕ) → Type 0
IsOne settings w x s q a c = a ≡ shown w.marks s q → (c ≡ shown w.marks s q) ⊎ (c ≡ shown (after_entry settings x w).marks s q)

module _ (put : PutLaw) (lost : LostLaw) (spoil : SpoiledLaw) (settings : GatewaySettings) (w : World) (s : ℕ) (q : ShareKey) where
  none_called : (x : Entry) (calls : List Call) (oks : List Bool) (m c : Shares) → calls ≡ [] → MayBeLeft calls oks m c → IsOne settings w x s q (get m q) (get c q)
  none_called x calls oks m c none is was = inl (ap (λ n. get n q) (subst (λ l. MayBeLeft l oks m c) none is) ∙ was)

  by_upload : (id : ℕ) (secret : List ℕ) (item : Item) (o : Option Upload) → upload_by (under settings secret) item ≡ o → (calls : List Call) (oks : List Bool) (m c : Shares)
      → ArePutsOf settings.servers s o calls → MayBeLeft calls oks m c → IsOne settings w (Asked id secret item) s q (get m q) (get c q)
  by_upload id secret item None by calls oks m c are is was = none_called (Asked id secret item) calls oks m c are is was
  by_upload id secret item (Some u) by calls oks m c are is was = elim (all_steps settings.servers s u calls oks m c are is q) [
    | inl same ↦ inl (same ∙ was)
    | inr new ↦ inr (new.1.0 ∙ sym (brought_there settings.servers s u (shown w.marks) q (sym was ∙ new.0) new.1.1.0 new.1.1.1.0 new.1.1.1.1) ∙ sym after_is)
  ]
    where
      v : World
      v = record { files = with_file u w.files; marks = put_marks settings.servers u w.marks }

      after_is : shown (after_entry settings (Asked id secret item) w).marks s q ≡ placed settings.servers (index u) (shares_of u) (shown w.marks) s q
      after_is =
          ap (λ (o : Option Upload). shown (after_stored settings.servers o w).marks s q) by
          ∙ ap (λ (b : Bool). shown (cond b v w).marks s q) (long_by (under settings secret) item u by)
          ∙ ap (λ (st : Standing). st s q) (put settings.servers u w.marks)

  by_loss : (server : ℕ) (key : ShareKey) (calls : List Call) (oks : List Bool) (m c : Shares) → s ≡ server → calls ≡ Lose key.0 key.1 ∷ [] → MayBeLeft calls oks m c
      → IsOne settings w (Lost server key) s q (get m q) (get c q)
  by_loss server key calls oks m c here are is was = elim (once (Lose key.0 key.1) oks m c (subst (λ l. MayBeLeft l oks m c) are is)) [
    | inl same ↦ inl (ap (λ n. get n q) same ∙ was)
    | inr gone ↦ inr (
        ap (λ n. get n q) gone ∙ get-remove key_cmp_total m key q ∙ ap (λ o. cond (eq_by_cmp key_cmp q key) None o) was
        ∙ sym (ap (λ b. cond (b && eq_by_cmp key_cmp q key) None (shown w.marks s q)) (eq-eqb s server here))
        ∙ sym (ap (λ (st : Standing). st s q) (lost server key w.marks)))
  ]

  by_spoil : (server : ℕ) (key : ShareKey) (place : ℕ) (calls : List Call) (oks : List Bool) (m c : Shares) → s ≡ server → calls ≡ Toggle key.0 key.1 place ∷ [] → MayBeLeft calls oks m c
      → IsOne settings w (Spoiled server key place) s q (get m q) (get c q)
  by_spoil server key place calls oks m c here are is was = elim (once (Toggle key.0 key.1 place) oks m c (subst (λ l. MayBeLeft l oks m c) are is)) [
    | inl same ↦ inl (ap (λ n. get n q) same ∙ was)
    | inr bad ↦ inr (
        ap (λ n. get n q) bad ∙ get-toggle m key place q ∙ ap (λ o. cond (eq_by_cmp key_cmp q key) (option_map (λ bytes. toggled bytes place) o) o) was
        ∙ sym (ap (λ b. cond (b && eq_by_cmp key_cmp q key) (option_map (λ bytes. toggled bytes place) (shown w.marks s q)) (shown w.marks s q)) (eq-eqb s server here))
        ∙ sym (ap (λ (st : Standing). st s q) (spoil server key place w.marks)))
  ]

  by_item : (x : Entry) (m c : Shares) → IsLeftAt settings s x m c → IsOne settings w x s q (get m q) (get c q)
  by_item (Asked id secret item) m c (calls, (oks, (are, is))) = by_upload id secret item (upload_by (under settings secret) item) refl calls oks m c are is
  by_item (Lost server key) m c (calls, (oks, (inl none, is))) = none_called (Lost server key) calls oks m c none is
  by_item (Lost server key) m c (calls, (oks, (inr one, is))) = by_loss server key calls oks m c one.0 one.1 is
  by_item (Spoiled server key place) m c (calls, (oks, (inl none, is))) = none_called (Spoiled server key place) calls oks m c none is
  by_item (Spoiled server key place) m c (calls, (oks, (inr one, is))) = by_spoil server key place calls oks m c one.0 one.1 is

pub cut_off_at : PutLaw → LostLaw → SpoiledLaw → (settings : GatewaySettings) (w : World) (x : Entry) (maps left : List Shares) → standing maps ≡ shown w.marks → AreLeft settings x maps left
    → IsCutOff settings w x (standing left)
cut_off_at put lost spoil settings w x maps left stand are s q =
    at_server maps left are.servers s q (IsOne settings w x s q) (λ was. inl was) (λ m c here there. by_item put lost spoil settings w s q x m c (are.each s m c here there))
    (ap (λ (st : Standing). st s q) stand)
