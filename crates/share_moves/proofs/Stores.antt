-- What stands in stores of which one was called.
use Rattle.std.proofs.Common.{◌≡◌, ℕ, zero, suc, ◌<◌, Bool, true, false, cond, ◌==◌, List, [], ◌∷◌, length, map, Option, Some, None, is_some, slice_get, slice_set, get_or, if◌then◌else◌, refl, sym, ap, subst, ◌∙◌, arith, eqb-true, eq-eqb, not, IsTrue, All}
use Rattle.std.proofs.Math.Seq.{map-set_same}
use Rattle.std.proofs.lemmas.Bool.Decides.{nat_tests}
use Rattle.std.proofs.lemmas.List.{map-set, length-map}
use Rattle.std.proofs.lemmas.List.Elements.{All-set}
use Rattle.std.proofs.lemmas.Map.Views.{tells_apart}
use Rattle.std.proofs.lemmas.Option.{slice_get-map, slice_get_read}
use Rattle.std.specs.Cmp.{eq_by_cmp_equiv}
use Rattle.std.specs.FinMap.{get, insert, get-insert}
use Rattle.std.specs.Option.{option_or, option_map}
use Rattle.std.specs.Ordering.{eq_by_cmp}
use Rattle.share_store.specs.Shares.{Shares, ShareKey, key_cmp}
use Rattle.share_store.specs.MapLaws.{key_cmp_total, key_cmp_exact}
use Rattle.share_store.specs.Looked.{Looked}
use Rattle.share_store.specs.Put.{put_once}
use Rattle.grid.specs.Standing.{Standing, standing}
use Rattle.grid.specs.Placement.{server_of}
use Rattle.share_moves.specs.Steps.{single_share, with_found, IsLookedAt}
use Rattle.share_moves.proofs.Pushes.{or_none}

-- the maps after one of them was replaced
standing_set : (maps : List Shares) (i : ℕ) (m : Shares) → i < length maps → (s : ℕ) (q : ShareKey) → standing (slice_set maps i m) s q ≡ (if s == i then get m q else standing maps s q)
standing_set [] i m lt s q = absurd (omega arith)
standing_set (x ∷ xs) zero m lt zero q = grind (arith, nat_tests)
standing_set (x ∷ xs) zero m lt (suc s) q = grind (arith, nat_tests)
standing_set (x ∷ xs) (suc i) m lt zero q = grind (arith, nat_tests)
standing_set (x ∷ xs) (suc i) m lt (suc s) q = grind (arith, nat_tests, standing_set xs i m (omega arith) s q)

module _ {T : Type 0} (shares : T → Shares) (stores : List T) (i : ℕ) (lt : i < length stores) where
  -- what stands after one store was replaced
  pub stands_after : (store : T) (s : ℕ) (q : ShareKey) → standing (map shares (slice_set stores i store)) s q ≡ (if s == i then get (shares store) q else standing (map shares stores) s q)
  stands_after store s q =
      ap (λ maps. standing maps s q) (map-set shares stores i store)
      ∙ standing_set (map shares stores) i (shares store) (omega (arith, lt, length-map stores shares)) s q

  -- what stands at the server of a store
  pub stands_at : (store : T) → store ≡ get_or stores i store → (q : ShareKey) → standing (map shares stores) i q ≡ get (shares store) q
  stands_at store read q =
      ap (λ o. there o) (slice_get-map shares stores i) ∙ ap (λ o. there (option_map shares o)) (slice_get_read stores (length stores) i store refl lt read)
    where
      there : Option Shares → Option (List ℕ)
      there None = None
      there (Some m) = get m q

choice : {A B : Type 0} (f : A → B) (b : Bool) (x y : A) → f (cond b x y) ≡ cond b (f x) (f y)
choice f true x y = refl
choice f false x y = refl

-- what a map has after a share was put where none stood
get-put_once : (m : Shares) (key : ShareKey) (bytes : List ℕ) (q : ShareKey) → get (put_once m key bytes) q ≡ option_or (get m q) (single_share key bytes q)
get-put_once m key bytes q =
    choice (λ n. get n q) (is_some (get m key)) m (insert m key bytes)
    ∙ ap (cond (is_some (get m key)) (get m q)) (get-insert key_cmp_total m key bytes q)
    ∙ by_test (get m q) (get m key) (eq_by_cmp key_cmp q key) (λ on. ap (get m) (tells_apart key_cmp_exact q key on))
  where
    by_test : (here there : Option (List ℕ)) (b : Bool) → (b ≡ true → here ≡ there) → cond (is_some there) here (cond b (Some bytes) here) ≡ option_or here (cond b (Some bytes) None)
    by_test here (Some x) true same = rw (same refl) refl
    by_test here None true same = rw (same refl) refl
    by_test here (Some x) false same = sym (or_none here)
    by_test here None false same = sym (or_none here)

-- a share that is put in its place
pub put_in_place : {T : Type 0} (shares : T → Shares) (stores : List T) (count place : ℕ) (old new : T) (key : ShareKey) (bytes : List ℕ) → place < length stores → old ≡ get_or stores place old
    → place ≡ server_of count key.0 key.1 → shares new ≡ put_once (shares old) key bytes
    → standing (map shares (slice_set stores place new)) ≡ with_found count (single_share key bytes) (standing (map shares stores))
put_in_place shares stores count place old new key bytes lt read is put =
    let point : (s : ℕ) (q : ShareKey) → standing (map shares (slice_set stores place new)) s q ≡ with_found count (single_share key bytes) (standing (map shares stores)) s q =
    λ s q. stands_after shares stores place lt new s q ∙ by_server s q (s == place) refl in
    λ j s q. point s q j
  where
    before : Standing
    before = standing (map shares stores)

    there : (q : ShareKey) → get (shares new) q ≡ option_or (get (shares old) q) (single_share key bytes q)
    there q = ap (λ m. get m q) put ∙ get-put_once (shares old) key bytes q

    -- elsewhere than in its place the share isn't put
    far : (a : Option (List ℕ)) (b t : Bool) → (t ≡ true → b ≡ false) → a ≡ option_or a (cond b (cond t (Some bytes) None) None)
    far a true true other = let clash : (let x : Bool = true in x) ≡ false = other refl in cc
    far a true false other = sym (or_none a)
    far a false t other = sym (or_none a)

    near : (a : Option (List ℕ)) (b t : Bool) → (t ≡ true → b ≡ true) → option_or a (cond t (Some bytes) None) ≡ option_or a (cond b (cond t (Some bytes) None) None)
    near a true t same = refl
    near a false true same = let clash : (let x : Bool = false in x) ≡ true = same refl in cc
    near a false false same = refl

    placed : (q : ShareKey) → eq_by_cmp key_cmp q key ≡ true → place ≡ server_of count q.0 q.1
    placed q on = is ∙ ap (λ (k : ShareKey). server_of count k.0 k.1) (sym (tells_apart key_cmp_exact q key on))

    by_server : (s : ℕ) (q : ShareKey) (b : Bool) → (s == place) ≡ b → (if b then get (shares new) q else before s q) ≡ with_found count (single_share key bytes) before s q
    by_server s q true here =
        let at : s ≡ place = eqb-true s place here in
        there q
        ∙ ap (λ o. option_or o (single_share key bytes q)) (sym (stands_at shares stores place lt old read q) ∙ ap (λ n. before n q) (sym at))
        ∙ near (before s q) (s == server_of count q.0 q.1) (eq_by_cmp key_cmp q key) (λ on. eq-eqb s (server_of count q.0 q.1) (at ∙ placed q on))
    by_server s q false off =
        far (before s q) (s == server_of count q.0 q.1) (eq_by_cmp key_cmp q key) (λ on. elsewhere (s == server_of count q.0 q.1) refl (placed q on))
      where
        elsewhere : (b : Bool) → (s == server_of count q.0 q.1) ≡ b → place ≡ server_of count q.0 q.1 → b ≡ false
        elsewhere false off there = refl
        elsewhere true on there =
            let same : (s == place) ≡ true = eq-eqb s place (eqb-true s (server_of count q.0 q.1) on ∙ sym there) in
            let clash : (let x : Bool = true in x) ≡ false = sym same ∙ off in cc

-- what stands in its place then, where its store has it
pub in_place_after : {T : Type 0} (shares : T → Shares) (stores : List T) (place : ℕ) (new : T) (count : ℕ) (key : ShareKey) (bytes : List ℕ) → place < length stores → place ≡ server_of count key.0 key.1
    → get (shares new) key ≡ Some bytes → standing (map shares (slice_set stores place new)) (server_of count key.0 key.1) key ≡ Some bytes
in_place_after shares stores place new count key bytes lt is has =
    ap (λ n. standing (map shares (slice_set stores place new)) n key) (sym is)
    ∙ stands_after shares stores place lt new place key
    ∙ ap (λ b. if b then get (shares new) key else standing (map shares stores) place key) (eq-eqb place place refl)
    ∙ has

-- a share that was put where none stood
pub put_there : (old new : Shares) (key : ShareKey) (bytes : List ℕ) → is_some (get old key) ≡ false → new ≡ put_once old key bytes → get new key ≡ Some bytes
put_there old new key bytes none put =
    ap (λ m. get m key) put ∙ get-put_once old key bytes key ∙ ap (λ o. option_or o (single_share key bytes key)) (is_none (get old key) none)
    ∙ ap (λ b. if b then Some bytes else None) ((eq_by_cmp_equiv key_cmp_total).refl key)
  where
    is_none : (o : Option (List ℕ)) → is_some o ≡ false → o ≡ None
    is_none None e = refl
    is_none (Some x) e = cc

pub not_false : (b found : Bool) → b ≡ true → b ≡ not found → found ≡ false
not_false b true on is = let clash : (let x : Bool = false in x) ≡ true = sym is ∙ on in cc
not_false b false on is = refl

-- what a call that looks leaves, and one after it
pub looked_none : {S : Type 0} (honest : S → Bool) (shares : S → Shares) (room failures : S → ℕ) (x : S) → Looked honest shares room failures x x
looked_none honest shares room failures x = record { rises = omega arith; still_honest = λ h. h; was_honest = λ h. h; same_shares = λ h. refl; same_room = λ h. refl }

pub looked_both : {S : Type 0} {honest : S → Bool} {shares : S → Shares} {room failures : S → ℕ} {old mid new : S} → Looked honest shares room failures old mid → Looked honest shares room failures mid new
    → Looked honest shares room failures old new
looked_both a b = record {
  rises = omega (arith, a.rises, b.rises);
  still_honest = λ h. b.still_honest (a.still_honest h);
  was_honest = λ h. a.was_honest (b.was_honest h);
  same_shares = λ h. b.same_shares (a.still_honest h) ∙ a.same_shares h;
  same_room = λ h. b.same_room (a.still_honest h) ∙ a.same_room h;
}

-- one of stores that are honest
pub one_honest : {S : Type 0} (honest : S → Bool) (stores : List S) (i : ℕ) (store : S) → i < length stores → store ≡ get_or stores i store → All (λ s. IsTrue (honest s)) stores → IsTrue (honest store)
one_honest honest stores i store lt read all = subst (λ s. IsTrue (honest s)) (sym read) (all i store lt)

-- the map of one of them
pub map_at : {S : Type 0} (shares : S → Shares) (stores : List S) (i : ℕ) (store : S) → i < length stores → store ≡ get_or stores i store → slice_get (map shares stores) i ≡ Some (shares store)
map_at shares stores i store lt read = slice_get-map shares stores i ∙ ap (option_map shares) (slice_get_read stores (length stores) i store refl lt read)

-- the maps of stores of which one was looked at
pub maps_kept : {S : Type 0} (shares : S → Shares) (stores : List S) (i : ℕ) (old new : S) → old ≡ get_or stores i old → shares new ≡ shares old → map shares (slice_set stores i new) ≡ map shares stores
maps_kept shares stores i old new read same = map-set_same shares stores i new old (same ∙ ap shares read)

-- stores that were looked at, one call after another
pub looked_at_none : {S : Type 0} (honest : S → Bool) (shares : S → Shares) (stores : List S) → IsLookedAt honest shares stores stores
looked_at_none honest shares stores = record { still_honest = λ all. all; same_shares = λ all. refl }

pub looked_at_both : {S : Type 0} {honest : S → Bool} {shares : S → Shares} {old mid new : List S} → IsLookedAt honest shares old mid → IsLookedAt honest shares mid new → IsLookedAt honest shares old new
looked_at_both a b = record {
  still_honest = λ all. b.still_honest (a.still_honest all);
  same_shares = λ all. b.same_shares (a.still_honest all) ∙ a.same_shares all;
}

pub looked_at_one : {S : Type 0} (honest : S → Bool) (shares : S → Shares) (room failures : S → ℕ) (old stores : List S) (i : ℕ) (before after : S) → i < length stores → before ≡ get_or stores i before
    → IsLookedAt honest shares old stores → Looked honest shares room failures before after → IsLookedAt honest shares old (slice_set stores i after)
looked_at_one honest shares room failures old stores i before after lt read kept looked = record {
  still_honest = λ all. All-set (λ s. IsTrue (honest s)) stores i after (looked.still_honest (one_honest honest stores i before lt read (kept.still_honest all))) (kept.still_honest all);
  same_shares = λ all. maps_kept shares stores i before after read (looked.same_shares (one_honest honest stores i before lt read (kept.still_honest all))) ∙ kept.same_shares all;
}

pub none_of : {A : Type 0} (o : Option A) (b : Bool) → b ≡ is_some o → b ≡ false → o ≡ None
none_of None b is off = refl
none_of (Some x) b is off = let clash : (let t : Bool = true in t) ≡ false = sym is ∙ off in cc

pub some_of : {A : Type 0} (o : Option A) (b : Bool) → b ≡ is_some o → b ≡ true → is_some o ≡ true
some_of o b is on = sym is ∙ on

pub some_mapped : {A B : Type 0} (f : A → B) (o : Option A) → is_some (option_map f o) ≡ is_some o
some_mapped f None = refl
some_mapped f (Some x) = refl
