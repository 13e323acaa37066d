-- What one store's call does to what stands in a grid.
use Rattle.std.proofs.Common.{◌≡◌, ◌⊎◌, inl, inr, ℕ, zero, suc, ◌<◌, ◌≤◌, ◌+◌, ◌↔◌, Bool, true, false, cond, ◌==◌, List, [], ◌∷◌, length, Option, Some, None, slice_get, slice_set, if◌then◌else◌, refl, sym, ap, subst, ◌∙◌, arith, unwrap_or, ◌&&◌, option_and_then, is_some, nat_lt, nat_cmp, ◌++◌, take, map, add-one, length-take-le, length-append}
use Rattle.std.proofs.lemmas.Option.{slice_get_within, slice_get-map}
use Rattle.std.specs.Option.{option_map, option_map_or}
use Rattle.std.proofs.lemmas.Map.Views.{tells_apart}
use Rattle.std.specs.Cmp.Lexicographic.{slice_cmp}
use Rattle.std.proofs.lemmas.Bool.Decides.{nat_tests}
use Rattle.std.proofs.lemmas.List.{set_past}
use Rattle.std.specs.Ordering.{eq_by_cmp, is_eq, ordering_then}
use Rattle.std.specs.declared.cmp.Ordering.{Ordering}
use Rattle.std.specs.declared.cmp.Ordering.TheVariants.{Less, Equal, Greater}
use Rattle.std.specs.Cmp.{nat_cmp_is}
use Rattle.std.specs.FinMap.{get, insert, get-insert}
use Rattle.share_store.specs.Shares.{Shares, ShareKey, key_cmp}
use Rattle.share_store.specs.MapLaws.{key_cmp_total, key_cmp_exact}
use Rattle.share_store.specs.Put.{put_once}
use Rattle.share_store.specs.Toggle.{toggled, with_toggle, has_byte, bytes_at}
use Rattle.grid.specs.Standing.{Standing, at_server}
use Rattle.grid.specs.Standing.{standing as standing_in}
use Rattle.grid.specs.Changes.{changed_at, put_at}
use Rattle.grid.specs.Placement.{placed, server_of}

-- what stands in these stores
abbrev pub standing : {S : Type 0} → (S → Shares) → List S → Standing
standing shares stores server key = option_and_then (λ store. get (shares store) key) (slice_get stores server)

pub standing_by_maps : {S : Type 0} (shares : S → Shares) (stores : List S) → standing_in (map shares stores) ≡ standing shares stores
standing_by_maps {S} shares stores =
    let point : (s : ℕ) (q : ShareKey) → standing_in (map shares stores) s q ≡ standing shares stores s q = λ s q.
    ap (option_and_then (λ m. get m q)) (slice_get-map shares stores s) ∙ through q (slice_get stores s) in
    λ j s q. point s q j
  where
    through : (q : ShareKey) (o : Option S) → option_and_then (λ (m : Shares). get m q) (option_map shares o) ≡ option_and_then (λ store. get (shares store) q) o
    through q None = refl
    through q (Some x) = refl

-- a choice under a function
pub choice : {A B : Type 0} (f : A → B) (b : Bool) (x y : A) → f (cond b x y) ≡ cond b (f x) (f y)
choice f true x y = refl
choice f false x y = refl

module _ {S : Type 0} where
  -- the stores after one of them was replaced
  pub get-set : (stores : List S) (i : ℕ) (store : S) → i < length stores → (j : ℕ) → slice_get (slice_set stores i store) j ≡ (if j == i then Some store else slice_get stores j)
  get-set [] i store lt j = absurd (omega arith)
  get-set (x ∷ xs) zero store lt zero = refl
  get-set (x ∷ xs) zero store lt (suc j) = grind (arith, nat_tests)
  get-set (x ∷ xs) (suc i) store lt zero = grind (arith, nat_tests)
  get-set (x ∷ xs) (suc i) store lt (suc j) = grind (arith, nat_tests, get-set xs i store (omega arith) j)

  -- a number of each store, after one of them was replaced
  pub at_server-set : (f : S → ℕ) (stores : List S) (i : ℕ) (store : S) → i < length stores → (j : ℕ) → at_server f (slice_set stores i store) j ≡ (if j == i then f store else at_server f stores j)
  at_server-set f stores i store lt j = rw (get-set stores i store lt j) (choice (λ o. option_map_or f o 0) (j == i) (Some store) (slice_get stores j))

  pub at_server-get : (f : S → ℕ) (stores : List S) (i : ℕ) (store : S) → slice_get stores i ≡ Some store → at_server f stores i ≡ f store
  at_server-get f stores i store at = ap (λ o. option_map_or f o 0) at

  -- a count that rose in the one store rose there alone
  pub rises_where : (f : S → ℕ) (stores : List S) (i : ℕ) (old new : S) → i < length stores → slice_get stores i ≡ Some old → (s : ℕ) →
      ((at_server f stores s < at_server f (slice_set stores i new) s) ↔ ((s ≡ i) × (f old < f new)))
  rises_where f stores i old new lt at s = grind (arith, nat_tests, at_server-set f stores i new lt s, at_server-get f stores i old at)

  -- a number that is the same at its server is the same of its store
  pub same_there : (f : S → ℕ) (stores : List S) (i : ℕ) (old new : S) → i < length stores → slice_get stores i ≡ Some old → at_server f (slice_set stores i new) i ≡ at_server f stores i → f new ≡ f old
  same_there f stores i old new lt at same = grind (arith, nat_tests, at_server-set f stores i new lt i, at_server-get f stores i old at)

  -- what stands, after one store was replaced
  pub standing-set : (shares : S → Shares) (stores : List S) (i : ℕ) (store : S) → i < length stores → (s : ℕ) (q : ShareKey) → standing shares (slice_set stores i store) s q ≡ (if s == i then get (shares store) q else standing shares stores s q)
  standing-set shares stores i store lt s q = rw (get-set stores i store lt s) (choice (λ o. option_and_then (λ store. get (shares store) q) o) (s == i) (Some store) (slice_get stores s))

  pub standing-get : (shares : S → Shares) (stores : List S) (i : ℕ) (store : S) → slice_get stores i ≡ Some store → (q : ShareKey) → standing shares stores i q ≡ get (shares store) q
  standing-get shares stores i store at q = ap (λ o. option_and_then (λ store. get (shares store) q) o) at

  module _ (shares : S → Shares) (stores : List S) (i : ℕ) (old new : S) (lt : i < length stores) (at : slice_get stores i ≡ Some old) where
    here : (s : ℕ) (q : ShareKey) → s ≡ i → standing shares stores s q ≡ get (shares old) q
    here s q e = subst (λ t. standing shares stores t q ≡ get (shares old) q) (sym e) (standing-get shares stores i old at q)

    -- one store's change is the grid's
    stood_changed : (key : ShareKey) (change : Option (List ℕ) → Option (List ℕ)) →
        ((q : ShareKey) → get (shares new) q ≡ (if eq_by_cmp key_cmp q key then change (get (shares old) q) else get (shares old) q)) →
        standing shares (slice_set stores i new) ≡ changed_at i key change (standing shares stores)
    stood_changed key change is =
        let point : (s : ℕ) (q : ShareKey) → standing shares (slice_set stores i new) s q ≡ changed_at i key change (standing shares stores) s q = λ s q.
        standing-set shares stores i new lt s q ∙ by_place s q (standing shares stores s q) (here s q) in
        λ j s q. point s q j
      where
        by_place : (s : ℕ) (q : ShareKey) (stood : Option (List ℕ)) → (s ≡ i → stood ≡ get (shares old) q) →
            (if s == i then get (shares new) q else stood) ≡ (if s == i && eq_by_cmp key_cmp q key then change stood else stood)
        by_place s q stood same = grind (arith, nat_tests, is q)

    -- a store that stands as it stood leaves what stands
    stood_same : shares new ≡ shares old → standing shares (slice_set stores i new) ≡ standing shares stores
    stood_same same =
        let point : (s : ℕ) (q : ShareKey) → standing shares (slice_set stores i new) s q ≡ standing shares stores s q = λ s q.
        standing-set shares stores i new lt s q ∙ by_place s q (standing shares stores s q) (here s q) in
        λ j s q. point s q j
      where
        by_place : (s : ℕ) (q : ShareKey) (stood : Option (List ℕ)) → (s ≡ i → stood ≡ get (shares old) q) →
            (if s == i then get (shares new) q else stood) ≡ stood
        by_place s q stood was = let get_same : get (shares new) q ≡ get (shares old) q = ap (λ m. get m q) same in grind (arith, nat_tests)

-- the same of the maps of the stores
module _ {S : Type 0} (shares : S → Shares) (stores : List S) (i : ℕ) (old new : S) (lt : i < length stores) (at : slice_get stores i ≡ Some old) where
  pub standing_changed : (key : ShareKey) (change : Option (List ℕ) → Option (List ℕ)) →
      ((q : ShareKey) → get (shares new) q ≡ (if eq_by_cmp key_cmp q key then change (get (shares old) q) else get (shares old) q)) →
      standing_in (map shares (slice_set stores i new)) ≡ changed_at i key change (standing_in (map shares stores))
  standing_changed key change is =
      standing_by_maps shares (slice_set stores i new) ∙ stood_changed shares stores i old new lt at key change is
      ∙ ap (changed_at i key change) (sym (standing_by_maps shares stores))

  pub standing_same : shares new ≡ shares old → standing_in (map shares (slice_set stores i new)) ≡ standing_in (map shares stores)
  standing_same same =
      standing_by_maps shares (slice_set stores i new) ∙ stood_same shares stores i old new lt at same ∙ sym (standing_by_maps shares stores)

module _ (m : Shares) (key : ShareKey) where
  tied : (q : ShareKey) → eq_by_cmp key_cmp q key ≡ true → get m q ≡ get m key
  tied q t = ap (get m) (tells_apart key_cmp_exact q key t)

  put_or_kept : (stood_q stood_key : Option (List ℕ)) (bytes : List ℕ) (t : Bool) → (t ≡ true → stood_q ≡ stood_key) →
      cond (is_some stood_key) stood_q (cond t (Some bytes) stood_q) ≡ cond t (Some (unwrap_or stood_q bytes)) stood_q
  put_or_kept stood_q (Some x) bytes true same = rw (same refl) refl
  put_or_kept stood_q None bytes true same = rw (same refl) refl
  put_or_kept stood_q (Some x) bytes false same = refl
  put_or_kept stood_q None bytes false same = refl

  -- what a map has after a share was put where none stood
  pub get-put_once : (bytes : List ℕ) (q : ShareKey) → get (put_once m key bytes) q ≡ (if eq_by_cmp key_cmp q key then Some (unwrap_or (get m q) bytes) else get m q)
  get-put_once bytes q =
      choice (λ n. get n q) (is_some (get m key)) m (insert m key bytes)
      ∙ ap (cond (is_some (get m key)) (get m q)) (get-insert key_cmp_total m key bytes q)
      ∙ put_or_kept (get m q) (get m key) bytes (eq_by_cmp key_cmp q key) (tied q)

  past : (bytes : List ℕ) (place : ℕ) → (nat_lt place (length bytes) ≡ false) → toggled bytes place ≡ bytes
  past bytes place out =
      let beyond : length bytes ≤ place = grind (arith, nat_tests) in
      set_past bytes place _ beyond

  toggled_or_kept : (stood_q stood_key : Option (List ℕ)) (place : ℕ) (t : Bool) → (t ≡ true → stood_q ≡ stood_key) →
      cond (nat_lt place (length (unwrap_or stood_key []))) (cond t (Some (toggled (unwrap_or stood_key []) place)) stood_q) stood_q
      ≡ cond t (option_map (λ bytes. toggled bytes place) stood_q) stood_q
  toggled_or_kept stood_q (Some x) place true same =
      rw (same refl) (elim (nat_lt place (length x)) as (λ b. nat_lt place (length x) ≡ b → cond b (Some (toggled x place)) (Some x) ≡ Some (toggled x place)) [
        | true ↦ λ _. refl
        | false ↦ λ out. ap Some (sym (past x place out))
      ] refl)
  toggled_or_kept stood_q None place true same = rw (same refl) (grind (arith, nat_tests))
  toggled_or_kept stood_q (Some x) place false same = elim (nat_lt place (length x)) as (λ b. cond b stood_q stood_q ≡ stood_q) [ true ↦ refl | false ↦ refl ]
  toggled_or_kept stood_q None place false same = elim (nat_lt place 0) as (λ b. cond b stood_q stood_q ≡ stood_q) [ true ↦ refl | false ↦ refl ]

  -- what a map has after a bit was changed
  pub get-with_toggle : (place : ℕ) (q : ShareKey) → get (with_toggle m key place) q ≡ (if eq_by_cmp key_cmp q key then option_map (λ bytes. toggled bytes place) (get m q) else get m q)
  get-with_toggle place q =
      choice (λ n. get n q) (has_byte m key place) (insert m key (toggled (bytes_at m key) place)) m
      ∙ ap (λ o. cond (has_byte m key place) o (get m q)) (get-insert key_cmp_total m key (toggled (bytes_at m key) place) q)
      ∙ toggled_or_kept (get m q) (get m key) place (eq_by_cmp key_cmp q key) (tied q)

is_eq-nat_cmp : (a b : ℕ) → is_eq (nat_cmp a b) ≡ (a == b)
is_eq-nat_cmp a b = by_case (grind arith)
  where
    by_case : (a < b) ⊎ ((a ≡ b) ⊎ (b < a)) → is_eq (nat_cmp a b) ≡ (a == b)
    by_case (inl lt) = ap is_eq (sym (nat_cmp_is a b Less lt)) ∙ grind (arith, nat_tests)
    by_case (inr (inl e)) = ap is_eq (sym (nat_cmp_is a b Equal e)) ∙ grind (arith, nat_tests)
    by_case (inr (inr lt)) = ap is_eq (sym (nat_cmp_is a b Greater lt)) ∙ grind (arith, nat_tests)

-- two keys are one where their indexes and their numbers are
key_test : (q : ShareKey) (index : List ℕ) (n : ℕ) → eq_by_cmp key_cmp q (index, n) ≡ eq_by_cmp (slice_cmp nat_cmp) q.0 index && q.1 == n
key_test q index n = by_order (slice_cmp nat_cmp q.0 index)
  where
    same_number : is_eq (nat_cmp q.1 n) ≡ (q.1 == n)
    same_number = is_eq-nat_cmp q.1 n

    by_order : (r : Ordering) → is_eq (ordering_then r (nat_cmp q.1 n)) ≡ is_eq r && q.1 == n
    by_order Less = refl
    by_order Equal = same_number
    by_order Greater = refl

-- one more share at its own place
snoc_point : (e : Bool) (k n s sk sn : ℕ) (b : Option (List ℕ)) (got more x : List ℕ) → (k < n → more ≡ got) → (k ≡ n → more ≡ x) → (k ≡ n → sk ≡ sn) →
    (if e && nat_lt k (n + 1) && s == sk then Some (unwrap_or b more) else b)
    ≡ (if s == sn && (e && k == n) then Some (unwrap_or (if e && nat_lt k n && s == sk then Some (unwrap_or b got) else b) x) else (if e && nat_lt k n && s == sk then Some (unwrap_or b got) else b))
snoc_point true k n s sk sn b got more x below here server = grind (arith, nat_tests)
snoc_point false k n s sk sn b got more x below here server = grind (arith, nat_tests)

-- what stands at a place of a list that grew by one
get_snoc_below : (xs : List (List ℕ)) (x : List ℕ) (k : ℕ) → k < length xs → slice_get (xs ++ x ∷ []) k ≡ slice_get xs k
get_snoc_below [] x k lt = absurd (omega arith)
get_snoc_below (y ∷ ys) x zero lt = refl
get_snoc_below (y ∷ ys) x (suc k) lt = get_snoc_below ys x k (omega arith)

get_snoc_here : (xs : List (List ℕ)) (x : List ℕ) (k : ℕ) → k ≡ length xs → slice_get (xs ++ x ∷ []) k ≡ Some x
get_snoc_here [] x zero e = refl
get_snoc_here [] x (suc k) e = absurd (omega arith)
get_snoc_here (y ∷ ys) x zero e = absurd (omega arith)
get_snoc_here (y ∷ ys) x (suc k) e = get_snoc_here ys x k (omega arith)

-- one more share is put at its own place
pub placed_snoc : (count : ℕ) (index : List ℕ) (xs : List (List ℕ)) (x : List ℕ) (before : Standing) →
    placed count index (xs ++ x ∷ []) before ≡ put_at (server_of count index (length xs)) (index, length xs) x (placed count index xs before)
placed_snoc count index xs x before =
    let point : (s : ℕ) (q : ShareKey) → placed count index (xs ++ x ∷ []) before s q ≡ put_at (server_of count index (length xs)) (index, length xs) x (placed count index xs before) s q = λ s q.
    let e = eq_by_cmp (slice_cmp nat_cmp) q.0 index in
    let n = length xs in
    let got = unwrap_or (slice_get xs q.1) [] in
    let more = unwrap_or (slice_get (xs ++ x ∷ []) q.1) [] in
    let earlier = if e && nat_lt q.1 n && s == server_of count index q.1 then Some (unwrap_or (before s q) got) else before s q in
    ap (λ m. if e && nat_lt q.1 m && s == server_of count index q.1 then Some (unwrap_or (before s q) more) else before s q) (length-append xs (x ∷ []))
    ∙ snoc_point e q.1 n s (server_of count index q.1) (server_of count index n) (before s q) got more x
    (λ lt. ap (λ o. unwrap_or o []) (get_snoc_below xs x q.1 lt)) (λ same. ap (λ o. unwrap_or o []) (get_snoc_here xs x q.1 same)) (λ same. ap (server_of count index) same)
    ∙ ap (λ t. if s == server_of count index n && t then Some (unwrap_or earlier x) else earlier) (sym (key_test q index n)) in
    λ j s q. point s q j

-- one more of the elements
take_next : {A : Type 0} (xs : List A) (i : ℕ) (x : A) → slice_get xs i ≡ Some x → take (suc i) xs ≡ take i xs ++ x ∷ []
take_next [] i x at = cc
take_next (y ∷ ys) zero x at = let same : y ≡ x = cc in ap (λ z. z ∷ []) same
take_next (y ∷ ys) (suc i) x at = ap (λ t. y ∷ t) (take_next ys i x at)

pub take_more : {A : Type 0} (xs : List A) (i : ℕ) (x : A) → slice_get xs i ≡ Some x → take (i + 1) xs ≡ take i xs ++ x ∷ []
take_more xs i x at = ap (λ n. take n xs) (add-one i) ∙ take_next xs i x at

-- after share i was put too
pub placed_next : (count : ℕ) (index : List ℕ) (shares : List (List ℕ)) (i : ℕ) (share : List ℕ) (before : Standing) → slice_get shares i ≡ Some share →
    placed count index (take (i + 1) shares) before ≡ put_at (server_of count index i) (index, i) share (placed count index (take i shares) before)
placed_next count index shares i share before at =
    let so_far = take i shares in
    let counted : length so_far ≡ i = omega (arith, length-take-le i shares (omega (arith, slice_get_within shares i share at))) in
    ap (λ t. placed count index t before) (take_more shares i share at)
    ∙ placed_snoc count index so_far share before
    ∙ ap (λ n. put_at (server_of count index n) (index, n) share (placed count index so_far before)) counted

-- before any share was put
pub placed_none : (count : ℕ) (index : List ℕ) (before : Standing) → placed count index [] before ≡ before
placed_none count index before =
    let point : (s : ℕ) (q : ShareKey) → placed count index [] before s q ≡ before s q = λ s q. nothing (eq_by_cmp (slice_cmp nat_cmp) q.0 index) q.1 (s == server_of count index q.1) (before s q) in
    λ j s q. point s q j
  where
    nothing : (e : Bool) (k : ℕ) (t : Bool) (b : Option (List ℕ)) → (if e && nat_lt k 0 && t then Some (unwrap_or b []) else b) ≡ b
    nothing true k true b = grind (arith, nat_tests)
    nothing true k false b = grind (arith, nat_tests)
    nothing false k t b = refl
