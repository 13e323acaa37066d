-- The shares of a map under an index, number by number.
use Rattle.std.proofs.Common.{◌≡◌, ◌⊎◌, inl, inr, ◌<◌, ◌≤◌, ◌+◌, ℕ, zero, suc, Bool, true, false, cond, ◌&&◌, List, [], ◌∷◌, ◌++◌, map, filter, min, Option, Some, None, nat_eq, refl, sym, ap, subst, ◌∙◌, T, arith}
use Rattle.std.proofs.lemmas.Bool.{cases_lt, eqb-true, eq-eqb, lt-ltb, le-ltb}
use Rattle.std.proofs.lemmas.Map.Views.{tells_apart}
use Rattle.std.specs.Prelude.{nat_lt}
use Rattle.std.specs.Cmp.{tied_itself, nat_cmp_total, ranked}
use Rattle.std.specs.Cmp.Lexicographic.{pointwise, slice_cmp, nat_list_cmp_total}
use Rattle.std.specs.declared.cmp.Ordering.{Ordering}
use Rattle.std.specs.declared.cmp.Ordering.TheVariants.{Less, Equal, Greater}
use Rattle.std.specs.Ordering.{is_lt, is_eq, eq_by_cmp, nat_cmp, ordering_then}
use Rattle.std.specs.FinMap.{get, insert, remove, entries, entries_sorted, find, is_sorted, get-entries, get-insert, get-remove}
use Rattle.std.specs.FinMap.Entries.{below_all}
use Rattle.share_store.specs.Shares.{Shares, ShareKey, ShareEntry, key_cmp}
use Rattle.share_store.specs.MapLaws.{key_cmp_total, key_cmp_exact}
use Rattle.share_store.specs.Numbers.{of_index}
use Rattle.share_store.specs.NumberedShares.{below_limit, shares_for}
use Rattle.redis_store.specs.Answers.{numbered_share}
use Rattle.redis_store.specs.Commands.{asked_below}

-- ---- tests

left : (a b : Bool) → a && b ≡ true → a ≡ true
left true b h = refl
left false b h = h

right : (a b : Bool) → a && b ≡ true → b ≡ true
right true b h = h
right false b h = cc

less : (r : Ordering) → is_lt r ≡ true → r ≡ Less
less Less h = refl
less Equal h = cc
less Greater h = cc

is_true : (b : Bool) → T b → b ≡ true
is_true true t = refl
is_true false t = absurd t

lt_true : (a b : ℕ) → a < b → nat_lt a b ≡ true
lt_true a b lt = lt-ltb a b lt

lt_false : (a b : ℕ) → b ≤ a → nat_lt a b ≡ false
lt_false a b le = le-ltb a b le

same_bytes : (xs ys : List ℕ) → pointwise nat_eq xs ys ≡ true → xs ≡ ys
same_bytes [] [] h = refl
same_bytes [] (y ∷ ys) h = cc
same_bytes (x ∷ xs) [] h = cc
same_bytes (x ∷ xs) (y ∷ ys) h = λ i. eqb-true x y (left _ _ h) i ∷ same_bytes xs ys (right (nat_eq x y) _ h) i

number_itself : (n : ℕ) → nat_eq n n ≡ true
number_itself n = eq-eqb n n refl

bytes_itself : (xs : List ℕ) → pointwise nat_eq xs xs ≡ true
bytes_itself [] = refl
bytes_itself (x ∷ xs) = rw (number_itself x) (bytes_itself xs)

-- numbers that differ don't tie
apart : (k n : ℕ) → (k ≡ n → ⊥) → eq_by_cmp nat_cmp k n ≡ false
apart k n differ = by_case (nat_cmp k n) refl
  where
    by_case : (r : Ordering) → r ≡ nat_cmp k n → is_eq r ≡ false
    by_case Less is = refl
    by_case Equal is = absurd (differ (ranked k n Equal is))
    by_case Greater is = refl

-- keys of one index are in the order of their numbers
of_one_index : (index other : List ℕ) (k n : ℕ) → other ≡ index → key_cmp (index, k) (other, n) ≡ nat_cmp k n
of_one_index index other k n same =
    subst (λ (o : List ℕ). ordering_then (slice_cmp nat_cmp index o) (nat_cmp k n) ≡ nat_cmp k n) (sym same)
    (ap (λ r. ordering_then r (nat_cmp k n)) (tied_itself nat_list_cmp_total index))

-- ---- lists of numbered shares

abbrev numbered : ShareEntry → ℕ × List ℕ
numbered e = (e.0.1, e.1)

-- the numbers rise, from this one on
abbrev Rise : ℕ → List (ℕ × List ℕ) → Type 0
Rise low [] = Unit {0}
Rise low (s ∷ ss) = (low ≤ s.0) × Rise (suc s.0) ss

-- the number behind the last one, or this one
abbrev top : ℕ → List (ℕ × List ℕ) → ℕ
top low [] = low
top low (s ∷ ss) = top (suc s.0) ss

low_top : (low : ℕ) (ss : List (ℕ × List ℕ)) → Rise low ss → low ≤ top low ss
low_top low [] rise = omega arith
low_top low (s ∷ ss) rise = let more = low_top (suc s.0) ss rise.1 in let here = rise.0 in omega (arith, more, here)

all_below : (low bound : ℕ) (ss : List (ℕ × List ℕ)) → Rise low ss → top low ss ≤ bound → filter (λ (s : ℕ × List ℕ). nat_lt s.0 bound) ss ≡ ss
all_below low bound [] rise le = refl
all_below low bound (s ∷ ss) rise le =
    let more = low_top (suc s.0) ss rise.1 in
    let lt : s.0 < bound = omega (arith, more, le) in
    ap (λ b. cond b (s ∷ filter (λ (s : ℕ × List ℕ). nat_lt s.0 bound) ss) (filter (λ (s : ℕ × List ℕ). nat_lt s.0 bound) ss)) (lt_true s.0 bound lt)
    ∙ ap (λ (l : List (ℕ × List ℕ)). s ∷ l) (all_below (suc s.0) bound ss rise.1 le)

none_below : (low bound : ℕ) (ss : List (ℕ × List ℕ)) → bound ≤ low → Rise low ss → filter (λ (s : ℕ × List ℕ). nat_lt s.0 bound) ss ≡ []
none_below low bound [] le rise = refl
none_below low bound (s ∷ ss) le rise =
    let here = rise.0 in
    let past : bound ≤ s.0 = omega (arith, here, le) in
    ap (λ b. cond b (s ∷ filter (λ (s : ℕ × List ℕ). nat_lt s.0 bound) ss) (filter (λ (s : ℕ × List ℕ). nat_lt s.0 bound) ss)) (lt_false s.0 bound past)
    ∙ none_below (suc s.0) bound ss (omega (arith, past)) rise.1

not_found : (n low : ℕ) (ss : List (ℕ × List ℕ)) → n < low → Rise low ss → find nat_cmp n ss ≡ None
not_found n low [] lt rise = refl
not_found n low (s ∷ ss) lt rise =
    let here = rise.0 in
    let before : n < s.0 = omega (arith, here, lt) in
    ap (λ b. cond b (Some s.1) (find nat_cmp n ss)) (apart n s.0 (λ e. omega (arith, e, before)))
    ∙ not_found n (suc s.0) ss (omega (arith, before)) rise.1

-- ---- what is found, number by number

-- the shares that are found under so many numbers, from one on
abbrev pub collected : (ℕ → Option (List ℕ)) → ℕ → ℕ → List (ℕ × List ℕ)
collected found low zero = []
collected found low (suc n) = numbered_share low (found low) ++ collected found (suc low) n

pub collected_same : (f g : ℕ → Option (List ℕ)) (low n : ℕ) → ((k : ℕ) → low ≤ k → f k ≡ g k) → collected f low n ≡ collected g low n
collected_same f g low zero same = refl
collected_same f g low (suc n) same =
    ap (λ o. numbered_share low o ++ collected f (suc low) n) (same low (omega arith))
    ∙ ap (λ (l : List (ℕ × List ℕ)). numbered_share low (g low) ++ l) (collected_same f g (suc low) n (λ k le. same k (omega (arith, le))))

collected_none : (f : ℕ → Option (List ℕ)) (low n : ℕ) → ((k : ℕ) → low ≤ k → f k ≡ None) → collected f low n ≡ []
collected_none f low zero none = refl
collected_none f low (suc n) none =
    ap (λ o. numbered_share low o ++ collected f (suc low) n) (none low (omega arith))
    ∙ collected_none f (suc low) n (λ k le. none k (omega (arith, le)))

-- where nothing is found from a number on, no more is found below a later one
collected_past : (f : ℕ → Option (List ℕ)) (low few more last : ℕ) → low + few ≡ last → few ≤ more → ((k : ℕ) → last ≤ k → f k ≡ None) → collected f low more ≡ collected f low few
collected_past f low zero more last is le none = collected_none f low more (λ k from. none k (omega (arith, is, from)))
collected_past f low (suc few) zero last is le none = absurd (omega (arith, le))
collected_past f low (suc few) (suc more) last is le none =
    ap (λ (l : List (ℕ × List ℕ)). numbered_share low (f low) ++ l) (collected_past f (suc low) few more last (omega (arith, is)) (omega (arith, le)) none)

-- those below a bound, in a list whose numbers rise
listed_below : (low n bound : ℕ) (ss : List (ℕ × List ℕ)) → low + n ≡ bound → Rise low ss → filter (λ (s : ℕ × List ℕ). nat_lt s.0 bound) ss ≡ collected (λ k. find nat_cmp k ss) low n
listed_below low zero bound ss is rise = none_below low bound ss (omega (arith, is)) rise
listed_below low (suc n) bound [] is rise = sym (collected_none (λ k. None) low (suc n) (λ k le. refl))
listed_below low (suc n) bound (s ∷ ss) is rise = by_case (cases_lt low s.0) (λ there. listed_below (suc low) n bound (s ∷ ss) (omega (arith, is)) (there, rise.1)) (λ there. listed_below (suc low) n bound ss (omega (arith, is)) there)
  where
    by_case : (low < s.0) ⊎ (s.0 ≤ low)
        → (suc low ≤ s.0 → filter (λ (s : ℕ × List ℕ). nat_lt s.0 bound) (s ∷ ss) ≡ collected (λ k. find nat_cmp k (s ∷ ss)) (suc low) n)
        → (Rise (suc low) ss → filter (λ (s : ℕ × List ℕ). nat_lt s.0 bound) ss ≡ collected (λ k. find nat_cmp k ss) (suc low) n)
        → filter (λ (s : ℕ × List ℕ). nat_lt s.0 bound) (s ∷ ss) ≡ collected (λ k. find nat_cmp k (s ∷ ss)) low (suc n)
    by_case (inl lt) later next =
        later (omega (arith, lt))
        ∙ ap (λ o. numbered_share low o ++ collected (λ k. find nat_cmp k (s ∷ ss)) (suc low) n) (sym (not_found low (suc low) (s ∷ ss) (omega arith) (omega (arith, lt), rise.1)))
    by_case (inr le) later next =
        let from = rise.0 in
        let here : low ≡ s.0 = omega (arith, from, le) in
        let within : s.0 < bound = omega (arith, here, is) in
        let tied : eq_by_cmp nat_cmp low s.0 ≡ true = subst (λ k. eq_by_cmp nat_cmp low k ≡ true) here (ap is_eq (tied_itself nat_cmp_total low)) in
        ap (λ b. cond b (s ∷ filter (λ (s : ℕ × List ℕ). nat_lt s.0 bound) ss) (filter (λ (s : ℕ × List ℕ). nat_lt s.0 bound) ss)) (lt_true s.0 bound within)
        ∙ ap (λ (l : List (ℕ × List ℕ)). s ∷ l) (
        next (subst (λ k. Rise (suc k) ss) (sym here) rise.1)
        ∙ collected_same (λ k. find nat_cmp k ss) (λ k. find nat_cmp k (s ∷ ss)) (suc low) n
        (λ k more. ap (λ b. cond b (Some s.1) (find nat_cmp k ss)) (sym (apart k s.0 (λ e. omega (arith, e, more, here)))))
        )
        ∙ ap (λ k. (k, s.1) ∷ collected (λ k. find nat_cmp k (s ∷ ss)) (suc low) n) (sym here)
        ∙ ap (λ o. numbered_share low o ++ collected (λ k. find nat_cmp k (s ∷ ss)) (suc low) n) (ap (λ b. cond b (Some s.1) (find nat_cmp low ss)) (sym tied))

-- ---- the entries of a map

-- those of an index have numbers from this one on
abbrev IsAbove : List ℕ → ℕ → List ShareEntry → Type 0
IsAbove index low [] = Unit {0}
IsAbove index low (e ∷ es) = (pointwise nat_eq e.0.0 index ≡ true → low ≤ e.0.1) × IsAbove index low es

above_none : (index : List ℕ) (es : List ShareEntry) → IsAbove index 0 es
above_none index [] = tt
above_none index (e ∷ es) = (λ same. omega arith, above_none index es)

above_key : (index : List ℕ) (k : ℕ) (es : List ShareEntry) → below_all key_cmp (index, k) es ≡ true → IsAbove index (suc k) es
above_key index k [] below = tt
above_key index k (e ∷ es) below = (
  λ same.
      let rank : nat_cmp k e.0.1 ≡ Less = sym (of_one_index index e.0.0 k e.0.1 (same_bytes e.0.0 index same)) ∙ less (key_cmp (index, k) e.0) (left _ _ below) in
      let lt : k < e.0.1 = ranked k e.0.1 Less (sym rank) in
      omega (arith, lt),
  above_key index k es (right (is_lt (key_cmp (index, k) e.0)) _ below),
)

rise : (index : List ℕ) (low : ℕ) (es : List ShareEntry) → is_sorted key_cmp es ≡ true → IsAbove index low es → Rise low (map numbered (of_index index es))
rise index low [] sorted above = tt
rise index low (e ∷ es) sorted above = by_case (pointwise nat_eq e.0.0 index) refl (λ k there. rise index k es (right (below_all key_cmp e.0 es) _ sorted) there)
  where
    by_case : (b : Bool) → pointwise nat_eq e.0.0 index ≡ b → ((k : ℕ) → IsAbove index k es → Rise k (map numbered (of_index index es))) → Rise low (map numbered (cond b (e ∷ of_index index es) (of_index index es)))
    by_case true same more =
        let below : below_all key_cmp (index, e.0.1) es ≡ true = subst (λ (o : List ℕ). below_all key_cmp (o, e.0.1) es ≡ true) (same_bytes e.0.0 index same) (left (below_all key_cmp e.0 es) _ sorted) in
        (above.0 same, more (suc e.0.1) (above_key index e.0.1 es below))
    by_case false other more = more low above.1

-- a share is found among those of its index
found_listed : (index : List ℕ) (n : ℕ) (es : List ShareEntry) → find key_cmp (index, n) es ≡ find nat_cmp n (map numbered (of_index index es))
found_listed index n [] = refl
found_listed index n (e ∷ es) = by_case (pointwise nat_eq e.0.0 index) refl (found_listed index n es)
  where
    not_same : (b : Bool) → eq_by_cmp key_cmp (index, n) e.0 ≡ b → pointwise nat_eq e.0.0 index ≡ false → b ≡ false
    not_same true tied other =
        let same : e.0.0 ≡ index = ap (λ (k : ShareKey). k.0) (sym (tells_apart key_cmp_exact (index, n) e.0 tied)) in
        let it : pointwise nat_eq e.0.0 index ≡ true = subst (λ (o : List ℕ). pointwise nat_eq o index ≡ true) (sym same) (bytes_itself index) in
        absurd (let never : true ≡ false = sym it ∙ other in cc)
    not_same false tied other = refl

    by_case : (b : Bool) → pointwise nat_eq e.0.0 index ≡ b → find key_cmp (index, n) es ≡ find nat_cmp n (map numbered (of_index index es))
        → cond (eq_by_cmp key_cmp (index, n) e.0) (Some e.1) (find key_cmp (index, n) es) ≡ find nat_cmp n (map numbered (cond b (e ∷ of_index index es) (of_index index es)))
    by_case true same more =
        ap (λ r. cond (is_eq r) (Some e.1) (find key_cmp (index, n) es)) (of_one_index index e.0.0 n e.0.1 (same_bytes e.0.0 index same))
        ∙ ap (λ o. cond (eq_by_cmp nat_cmp n e.0.1) (Some e.1) o) more
    by_case false other more =
        ap (λ b. cond b (Some e.1) (find key_cmp (index, n) es)) (not_same (eq_by_cmp key_cmp (index, n) e.0) refl other) ∙ more

-- the shares under an index below a limit are those that are found, where none is from a number on
pub listed : (shares : Shares) (index : List ℕ) (made : ℕ) (limit : Option ℕ) → ((n : ℕ) → made ≤ n → get shares (index, n) ≡ None)
    → below_limit (λ (s : ℕ × List ℕ). s.0) limit (shares_for shares index) ≡ collected (λ n. get shares (index, n)) 0 (asked_below limit made)
listed shares index made limit none = by_limit limit
  where
    rises : Rise 0 (map numbered (of_index index (entries shares)))
    rises = rise index 0 (entries shares) (is_true _ (entries_sorted shares)) (above_none index (entries shares))

    found : (n : ℕ) → find nat_cmp n (map numbered (of_index index (entries shares))) ≡ get shares (index, n)
    found n = sym (found_listed index n (entries shares)) ∙ sym (get-entries shares (index, n))

    up_to : (bound : ℕ) → filter (λ (s : ℕ × List ℕ). nat_lt s.0 bound) (map numbered (of_index index (entries shares))) ≡ collected (λ n. get shares (index, n)) 0 bound
    up_to bound = listed_below 0 bound bound (map numbered (of_index index (entries shares))) (omega arith) rises
        ∙ collected_same (λ n. find nat_cmp n (map numbered (of_index index (entries shares)))) (λ n. get shares (index, n)) 0 bound (λ n le. found n)

    by_limit : (limit : Option ℕ) → below_limit (λ (s : ℕ × List ℕ). s.0) limit (shares_for shares index) ≡ collected (λ n. get shares (index, n)) 0 (asked_below limit made)
    by_limit None =
        let last : ℕ = top 0 (map numbered (of_index index (entries shares))) in
        sym (all_below 0 (last + made) (map numbered (of_index index (entries shares))) rises (omega arith))
        ∙ up_to (last + made)
        ∙ collected_past (λ n. get shares (index, n)) 0 made (last + made) made (omega arith) (omega arith) none
    by_limit (Some bound) = up_to bound ∙ by_order (cases_lt bound made)
      where
        by_order : (bound < made) ⊎ (made ≤ bound) → collected (λ n. get shares (index, n)) 0 bound ≡ collected (λ n. get shares (index, n)) 0 (min bound made)
        by_order (inl lt) = let is : bound ≡ min bound made = omega arith in ap (collected (λ n. get shares (index, n)) 0) is
        by_order (inr le) =
            let is : made ≡ min bound made = omega arith in
            collected_past (λ n. get shares (index, n)) 0 made bound made (omega arith) le none ∙ ap (collected (λ n. get shares (index, n)) 0) is

-- ---- a map with another share at a key, or none

abbrev pub with_share : Shares → ShareKey → Option (List ℕ) → Shares
with_share shares key None = remove shares key
with_share shares key (Some bytes) = insert shares key bytes

pub get-with_share : (shares : Shares) (key : ShareKey) (share : Option (List ℕ)) (q : ShareKey) → get (with_share shares key share) q ≡ cond (eq_by_cmp key_cmp q key) share (get shares q)
get-with_share shares key None q = get-remove key_cmp_total shares key q
get-with_share shares key (Some bytes) q = get-insert key_cmp_total shares key bytes q

pub get-at_share : (shares : Shares) (index : List ℕ) (n : ℕ) (share : Option (List ℕ)) → get (with_share shares (index, n) share) (index, n) ≡ share
get-at_share shares index n share = get-with_share shares (index, n) share (index, n) ∙ ap (λ r. cond (is_eq r) share (get shares (index, n))) (tied_itself key_cmp_total (index, n))

pub get-past_share : (shares : Shares) (index : List ℕ) (n k : ℕ) (share : Option (List ℕ)) → n < k → get (with_share shares (index, n) share) (index, k) ≡ get shares (index, k)
get-past_share shares index n k share lt =
    get-with_share shares (index, n) share (index, k)
    ∙ ap (λ r. cond (is_eq r) share (get shares (index, k))) (of_one_index index index k n refl)
    ∙ ap (λ b. cond b share (get shares (index, k))) (apart k n (λ e. omega (arith, e, lt)))
