-- Shares that are put one after the other, as what stands at each place.
use Rattle.std.proofs.Common.{◌≡◌, ℕ, zero, suc, ◌≤◌, ◌+◌, Bool, true, false, cond, ◌==◌, List, [], ◌∷◌, ◌++◌, length, take, Option, Some, None, slice_get, refl, sym, ap, subst, ◌∙◌, arith, add-one}
use Rattle.std.proofs.lemmas.Map.Views.{tells_apart}
use Rattle.std.specs.Option.{option_or}
use Rattle.std.specs.Ordering.{eq_by_cmp}
use Rattle.share_store.specs.Shares.{ShareKey, ShareEntry, key_cmp}
use Rattle.share_store.specs.MapLaws.{key_cmp_exact}
use Rattle.grid.specs.Standing.{Standing}
use Rattle.grid.specs.Placement.{server_of}
use Rattle.share_moves.specs.Steps.{single_share, found_share, with_found, AreFoundInPlace}

-- ---- two options, of which the first counts where it is one

pub or_none : {A : Type 0} (a : Option A) → option_or a None ≡ a
or_none None = refl
or_none (Some x) = refl

pub or_or : {A : Type 0} (a x y : Option A) → option_or (option_or a x) y ≡ option_or a (option_or x y)
or_or None x y = refl
or_or (Some v) x y = refl

or_twice : {A : Type 0} (a x y : Option A) (b : Bool) → option_or (option_or a (cond b x None)) (cond b y None) ≡ option_or a (cond b (option_or x y) None)
or_twice None x y true = refl
or_twice None x y false = refl
or_twice (Some v) x y b = refl

pub or_some : {A : Type 0} (a b : Option A) (s : A) → a ≡ Some s → option_or a b ≡ Some s
or_some a b s is = ap (λ o. option_or o b) is

-- ---- more shares

-- shares that are put after others
pub found_then : (count : ℕ) (f h : ShareKey → Option (List ℕ)) (before : Standing) → with_found count h (with_found count f before) ≡ with_found count (λ q. option_or (f q) (h q)) before
found_then count f h before = λ j s q. or_twice (before s q) (f q) (h q) (s == server_of count q.0 q.1) j

-- the same shares, by another name
pub found_alike : (count : ℕ) (f h : ShareKey → Option (List ℕ)) (before : Standing) → ((q : ShareKey) → f q ≡ h q) → with_found count f before ≡ with_found count h before
found_alike count f h before same = λ j s q. option_or (before s q) (cond (s == server_of count q.0 q.1) (same q j) None)

-- no share
pub found_none : (count : ℕ) (before : Standing) → with_found count (λ q. None) before ≡ before
found_none count before =
    let point : (s : ℕ) (q : ShareKey) → with_found count (λ q. None) before s q ≡ before s q = λ s q. by_test (before s q) (s == server_of count q.0 q.1) in
    λ j s q. point s q j
  where
    by_test : (a : Option (List ℕ)) (b : Bool) → option_or a (cond b None None) ≡ a
    by_test a true = or_none a
    by_test a false = or_none a

-- one more share behind others
pub found_push : (es : List ShareEntry) (e : ShareEntry) (q : ShareKey) → found_share (es ++ e ∷ []) q ≡ option_or (found_share es q) (single_share e.0 e.1 q)
found_push [] e q = refl
found_push (x ∷ xs) e q = by_test (found_push xs e q) (eq_by_cmp key_cmp q x.0)
  where
    by_test : found_share (xs ++ e ∷ []) q ≡ option_or (found_share xs q) (single_share e.0 e.1 q) → (b : Bool)
        → cond b (Some x.1) (found_share (xs ++ e ∷ []) q) ≡ option_or (cond b (Some x.1) (found_share xs q)) (single_share e.0 e.1 q)
    by_test rest true = refl
    by_test rest false = rest

take_next : {A : Type 0} (xs : List A) (i : ℕ) (x : A) → slice_get xs i ≡ Some x → take (suc i) xs ≡ take i xs ++ x ∷ []
take_next [] i x at = cc
take_next (y ∷ ys) zero x at = let same : y ≡ x = cc in ap (λ z. z ∷ []) same
take_next (y ∷ ys) (suc i) x at = ap (λ t. y ∷ t) (take_next ys i x at)

pub take_one_more : {A : Type 0} (xs : List A) (i : ℕ) (x : A) → slice_get xs i ≡ Some x → take (i + 1) xs ≡ take i xs ++ x ∷ []
take_one_more xs i x at = ap (λ n. take n xs) (add-one i) ∙ take_next xs i x at

pub past_end : {A : Type 0} (xs : List A) (i : ℕ) → slice_get xs i ≡ None → length xs ≤ i
past_end [] i none = omega arith
past_end (x ∷ xs) zero none = cc
past_end (x ∷ xs) (suc i) none = omega (arith, past_end xs i none)

-- after the share at a place was put too
pub found_more : (count : ℕ) (es : List ShareEntry) (i : ℕ) (e : ShareEntry) (before mid new : Standing) → slice_get es i ≡ Some e → mid ≡ with_found count (found_share (take i es)) before → new ≡ with_found count (single_share e.0 e.1) mid
    → new ≡ with_found count (found_share (take (i + 1) es)) before
found_more count es i e before mid new at so_far put =
    put ∙ ap (with_found count (single_share e.0 e.1)) so_far ∙ found_then count (found_share (take i es)) (single_share e.0 e.1) before
    ∙ found_alike count (λ q. option_or (found_share (take i es) q) (single_share e.0 e.1 q)) (found_share (take (i + 1) es)) before
    (λ q. sym (ap (λ l. found_share l q) (take_one_more es i e at) ∙ found_push (take i es) e q))

-- ---- shares in their places

-- what stands in its place stays there
pub stays_in_place : (count : ℕ) (f h : ShareKey → Option (List ℕ)) (now new : Standing) → new ≡ with_found count h now → AreFoundInPlace count f now → AreFoundInPlace count f new
stays_in_place count f h now new put there key s is = ap (λ (st : Standing). st (server_of count key.0 key.1) key) put ∙ or_some (now (server_of count key.0 key.1) key) _ s (there key s is)

-- a key that is another's is no share of it
pub single_is : (key q : ShareKey) (bytes s : List ℕ) → single_share key bytes q ≡ Some s → (q ≡ key) × (bytes ≡ s)
single_is key q bytes s is = by_test (eq_by_cmp key_cmp q key) refl is
  where
    by_test : (b : Bool) → eq_by_cmp key_cmp q key ≡ b → cond b (Some bytes) None ≡ Some s → (q ≡ key) × (bytes ≡ s)
    by_test true on e = (tells_apart key_cmp_exact q key on, cc)
    by_test false off e = cc

pub more_in_place : (count : ℕ) (es : List ShareEntry) (i : ℕ) (e : ShareEntry) (mid new : Standing) → slice_get es i ≡ Some e → new ≡ with_found count (single_share e.0 e.1) mid → AreFoundInPlace count (found_share (take i es)) mid
    → new (server_of count e.0.0 e.0.1) e.0 ≡ Some e.1 → AreFoundInPlace count (found_share (take (i + 1) es)) new
more_in_place count es i e mid new at put there here key s is =
    let either : option_or (found_share (take i es) key) (single_share e.0 e.1 key) ≡ Some s = sym (ap (λ l. found_share l key) (take_one_more es i e at) ∙ found_push (take i es) e key) ∙ is in
    by_case (found_share (take i es) key) refl either
  where
    by_case : (o : Option (List ℕ)) → found_share (take i es) key ≡ o → option_or o (single_share e.0 e.1 key) ≡ Some s → new (server_of count key.0 key.1) key ≡ Some s
    by_case (Some t) found e' = stays_in_place count (found_share (take i es)) (single_share e.0 e.1) mid new put there key s (found ∙ e')
    by_case None none e' =
        let one = single_is e.0 key e.1 s e' in
        ap (λ (k : ShareKey). new (server_of count k.0 k.1) k) one.0 ∙ here ∙ ap Some one.1

-- what holds of each share that is found, with one more
pub each_more : (P : ShareKey → List ℕ → Type 0) (es : List ShareEntry) (i : ℕ) (e : ShareEntry) → slice_get es i ≡ Some e → ((key : ShareKey) (s : List ℕ) → found_share (take i es) key ≡ Some s → P key s) → P e.0 e.1
    → (key : ShareKey) (s : List ℕ) → found_share (take (i + 1) es) key ≡ Some s → P key s
each_more P es i e at before here key s is = by_case (found_share (take i es) key) refl (sym (ap (λ l. found_share l key) (take_one_more es i e at) ∙ found_push (take i es) e key) ∙ is)
  where
    by_case : (o : Option (List ℕ)) → found_share (take i es) key ≡ o → option_or o (single_share e.0 e.1 key) ≡ Some s → P key s
    by_case (Some t) found e' = before key s (found ∙ e')
    by_case None none e' =
        let one = single_is e.0 key e.1 s e' in
        subst (λ (k : ShareKey). P k s) (sym one.0) (subst (λ (b : List ℕ). P e.0 b) one.1 here)
