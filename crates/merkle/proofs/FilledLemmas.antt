-- Lists of leaves with their padding, and their halves.
use Rattle.std.proofs.Common.{◌≡◌, ℕ, zero, suc, ◌+◌, ◌-◌, ◌^◌, ◌<◌, ◌≤◌, ◌≢◌, List, [], ◌∷◌, ◌++◌, length, take, drop, map, get_or, true, false, refl, sym, ap, subst, ◌∙◌, arith, length-append, length-take, length-drop}
use Rattle.std.specs.Prelude.{nat_lt, if◌then◌else◌}
use Rattle.std.specs.List.{range_with_len}
use Rattle.std.proofs.lemmas.List.{take_all, take-append-le, drop-append-le, drop_all}
use Rattle.std.proofs.lemmas.List.FromFn.{length-map-range_with_len, take-map-range_with_len}
use Rattle.std.proofs.Math.Seq.{take-append-add, drop-append-add}
use Rattle.merkle.specs.Node.{node, empty_leaf}
use Rattle.merkle.specs.Height.{height}
use Rattle.merkle.specs.Tree.{padded, tree_root}
use Rattle.merkle.specs.Chain.{tree_chain}
use Rattle.merkle.specs.Filled.{filled}
use Rattle.merkle.proofs.Levels.{true_or_false, below_is, not_below_is, below, not_below, double, height_fits, half_room}

-- padding leaves from an index on
abbrev pub pads : ℕ → ℕ → List (List ℕ)
pads first count = map empty_leaf (range_with_len first count)

filled_is : (xs : List (List ℕ)) (first h : ℕ) → filled xs first h ≡ xs ++ pads (first + length xs) (2 ^ h - length xs)
unfolding filled
filled_is xs first h = refl

pub padded_is : (xs : List (List ℕ)) → padded xs ≡ filled xs 0 (height (length xs))
unfolding padded filled
padded_is xs = ap (λ first. xs ++ pads first (2 ^ height (length xs) - length xs)) (let e : length xs ≡ 0 + length xs = omega arith in e)

pub length-filled : (xs : List (List ℕ)) (first h : ℕ) → length xs ≤ 2 ^ h → length (filled xs first h) ≡ 2 ^ h
length-filled xs first h within =
    ap length (filled_is xs first h)
    ∙ omega (arith, length-append xs (pads (first + length xs) (2 ^ h - length xs)), length-map-range_with_len empty_leaf (first + length xs) (2 ^ h - length xs))

pub length-padded : (xs : List (List ℕ)) → length (padded xs) ≡ 2 ^ height (length xs)
length-padded xs = ap length (padded_is xs) ∙ length-filled xs 0 (height (length xs)) (height_fits (length xs))

append_none : (xs : List (List ℕ)) → xs ++ [] ≡ xs
append_none [] = refl
append_none (x ∷ xs) = ap (λ t. x ∷ t) (append_none xs)

pads_none : (first count : ℕ) → count ≡ 0 → pads first count ≡ []
pads_none first count none = ap (pads first) none

drop-pads : (first k count : ℕ) → drop k (pads first (k + count)) ≡ pads (first + k) count
drop-pads first zero count =
    (λ i. pads ((let e : first ≡ first + 0 = omega arith in e) i) ((let e : 0 + count ≡ count = omega arith in e) i))
drop-pads first (suc k) count =
    let more : suc k + count ≡ suc (k + count) = omega arith in
    let place : first + 1 + k ≡ first + suc k = omega arith in
    ap (λ n. drop (suc k) (pads first n)) more ∙ drop-pads (first + 1) k count ∙ ap (λ n. pads n count) place

-- the left half of a subtree's leaves
pub filled_left : (xs : List (List ℕ)) (first h : ℕ) → length xs ≤ 2 ^ suc h → take (2 ^ h) (filled xs first (suc h)) ≡ filled (take (2 ^ h) xs) first h
filled_left xs first h within = true_or_false (nat_lt (2 ^ h) (length xs)) _ (λ test. full (below_is (2 ^ h) (length xs) test)) (λ test. partly (not_below_is (2 ^ h) (length xs) test))
  where
    full : 2 ^ h < length xs → take (2 ^ h) (filled xs first (suc h)) ≡ filled (take (2 ^ h) xs) first h
    full over =
        let none : 2 ^ h - length (take (2 ^ h) xs) ≡ 0 = omega (arith, length-take (2 ^ h) xs) in
        ap (take (2 ^ h)) (filled_is xs first (suc h))
        ∙ take-append-le (2 ^ h) xs (pads (first + length xs) (2 ^ suc h - length xs)) (omega arith)
        ∙ sym (append_none (take (2 ^ h) xs))
        ∙ ap (λ t. take (2 ^ h) xs ++ t) (sym (pads_none (first + length (take (2 ^ h) xs)) (2 ^ h - length (take (2 ^ h) xs)) none))
        ∙ sym (filled_is (take (2 ^ h) xs) first h)

    partly : length xs ≤ 2 ^ h → take (2 ^ h) (filled xs first (suc h)) ≡ filled (take (2 ^ h) xs) first h
    partly under =
        let twice = double h in
        let parts : 2 ^ h ≡ length xs + (2 ^ h - length xs) = omega arith in
        ap (take (2 ^ h)) (filled_is xs first (suc h))
        ∙ ap (λ k. take k (xs ++ pads (first + length xs) (2 ^ suc h - length xs))) parts
        ∙ take-append-add xs (pads (first + length xs) (2 ^ suc h - length xs)) (2 ^ h - length xs)
        ∙ ap (λ t. xs ++ t) (take-map-range_with_len empty_leaf (first + length xs) (2 ^ suc h - length xs) (2 ^ h - length xs) (omega arith))
        ∙ sym (filled_is xs first h)
        ∙ ap (λ t. filled t first h) (sym (take_all (2 ^ h) xs under))

-- the right half
pub filled_right : (xs : List (List ℕ)) (first h : ℕ) → length xs ≤ 2 ^ suc h → drop (2 ^ h) (filled xs first (suc h)) ≡ filled (drop (2 ^ h) xs) (first + 2 ^ h) h
filled_right xs first h within = true_or_false (nat_lt (2 ^ h) (length xs)) _ (λ test. full (below_is (2 ^ h) (length xs) test)) (λ test. partly (not_below_is (2 ^ h) (length xs) test))
  where
    full : 2 ^ h < length xs → drop (2 ^ h) (filled xs first (suc h)) ≡ filled (drop (2 ^ h) xs) (first + 2 ^ h) h
    full over =
        let twice = double h in
        let long = length-drop (2 ^ h) xs in
        let place : first + length xs ≡ first + 2 ^ h + length (drop (2 ^ h) xs) = omega arith in
        let count : 2 ^ suc h - length xs ≡ 2 ^ h - length (drop (2 ^ h) xs) = omega arith in
        ap (drop (2 ^ h)) (filled_is xs first (suc h))
        ∙ drop-append-le (2 ^ h) xs (pads (first + length xs) (2 ^ suc h - length xs)) (omega arith)
        ∙ (λ i. drop (2 ^ h) xs ++ pads (place i) (count i))
        ∙ sym (filled_is (drop (2 ^ h) xs) (first + 2 ^ h) h)

    partly : length xs ≤ 2 ^ h → drop (2 ^ h) (filled xs first (suc h)) ≡ filled (drop (2 ^ h) xs) (first + 2 ^ h) h
    partly under =
        let twice = double h in
        let parts : 2 ^ h ≡ length xs + (2 ^ h - length xs) = omega arith in
        let counts : 2 ^ suc h - length xs ≡ 2 ^ h - length xs + 2 ^ h = omega arith in
        let place : first + length xs + (2 ^ h - length xs) ≡ first + 2 ^ h + 0 = omega arith in
        let count : 2 ^ h ≡ 2 ^ h - 0 = omega arith in
        ap (drop (2 ^ h)) (filled_is xs first (suc h))
        ∙ (λ i. drop (parts i) (xs ++ pads (first + length xs) (counts i)))
        ∙ drop-append-add xs (pads (first + length xs) (2 ^ h - length xs + 2 ^ h)) (2 ^ h - length xs)
        ∙ drop-pads (first + length xs) (2 ^ h - length xs) (2 ^ h)
        ∙ (λ i. pads (place i) (count i))
        ∙ sym (filled_is [] (first + 2 ^ h) h)
        ∙ ap (λ t. filled t (first + 2 ^ h) h) (sym (drop_all (2 ^ h) xs under))

-- a subtree of one leaf
pub filled_leaf : (x : List ℕ) (xs : List (List ℕ)) (first : ℕ) → get_or (filled (x ∷ xs) first 0) 0 [] ≡ x
unfolding filled
filled_leaf x xs first = refl

pub filled_empty : (first : ℕ) → get_or (filled [] first 0) 0 [] ≡ empty_leaf first
unfolding filled
filled_empty first = ap empty_leaf (let e : first + 0 ≡ first = omega arith in e)

-- the node over the roots of both halves
pub tree_root-filled : (xs : List (List ℕ)) (first h : ℕ) → h ≢ 0 → length xs ≤ 2 ^ h
    → node (tree_root (h - 1) (filled (take (2 ^ (h - 1)) xs) first (h - 1))) (tree_root (h - 1) (filled (drop (2 ^ (h - 1)) xs) (first + 2 ^ (h - 1)) (h - 1))) ≡ tree_root h (filled xs first h)
tree_root-filled xs first zero some within = absurd (some refl)
tree_root-filled xs first (suc h) some within =
    let same : suc h - 1 ≡ h = omega arith in
    ap (λ d. node (tree_root d (filled (take (2 ^ d) xs) first d)) (tree_root d (filled (drop (2 ^ d) xs) (first + 2 ^ d) d))) same
    ∙ (λ i. node (tree_root h (sym (filled_left xs first h within) i)) (tree_root h (sym (filled_right xs first h within) i)))

-- a beginning that fits has halves that fit
pub left_within : (xs : List (List ℕ)) (h : ℕ) → length (take (2 ^ h) xs) ≤ 2 ^ h
left_within xs h = omega (arith, length-take (2 ^ h) xs)

pub right_within : (xs : List (List ℕ)) (h : ℕ) → h ≢ 0 → length xs ≤ 2 ^ h → length (drop (2 ^ (h - 1)) xs) ≤ 2 ^ (h - 1)
right_within xs h some within = let twice = half_room h some in omega (arith, length-drop (2 ^ (h - 1)) xs)

-- the chain in the half where the leaf stands, then the root of the other half
pub tree_chain-left : (xs : List (List ℕ)) (first h place : ℕ) → h ≢ 0 → length xs ≤ 2 ^ h → place < 2 ^ (h - 1)
    → tree_chain (h - 1) (filled (take (2 ^ (h - 1)) xs) first (h - 1)) place ++ tree_root (h - 1) (filled (drop (2 ^ (h - 1)) xs) (first + 2 ^ (h - 1)) (h - 1)) ∷ [] ≡ tree_chain h (filled xs first h) place
tree_chain-left xs first zero place some within inside = absurd (some refl)
tree_chain-left xs first (suc h) place some within inside =
    let same : suc h - 1 ≡ h = omega arith in
    let test : nat_lt place (2 ^ h) ≡ true = below place (2 ^ h) (subst (λ d. place < 2 ^ d) same inside) in
    ap (λ d. tree_chain d (filled (take (2 ^ d) xs) first d) place ++ tree_root d (filled (drop (2 ^ d) xs) (first + 2 ^ d) d) ∷ []) same
    ∙ (λ i. tree_chain h (sym (filled_left xs first h within) i) place ++ tree_root h (sym (filled_right xs first h within) i) ∷ [])
    ∙ ap (λ b. if b then tree_chain h (take (2 ^ h) (filled xs first (suc h))) place ++ tree_root h (drop (2 ^ h) (filled xs first (suc h))) ∷ [] else tree_chain h (drop (2 ^ h) (filled xs first (suc h))) (place - 2 ^ h) ++ tree_root h (take (2 ^ h) (filled xs first (suc h))) ∷ []) (sym test)

pub tree_chain-right : (xs : List (List ℕ)) (first h place : ℕ) → h ≢ 0 → length xs ≤ 2 ^ h → 2 ^ (h - 1) ≤ place
    → tree_chain (h - 1) (filled (drop (2 ^ (h - 1)) xs) (first + 2 ^ (h - 1)) (h - 1)) (place - 2 ^ (h - 1)) ++ tree_root (h - 1) (filled (take (2 ^ (h - 1)) xs) first (h - 1)) ∷ [] ≡ tree_chain h (filled xs first h) place
tree_chain-right xs first zero place some within past = absurd (some refl)
tree_chain-right xs first (suc h) place some within past =
    let same : suc h - 1 ≡ h = omega arith in
    let test : nat_lt place (2 ^ h) ≡ false = not_below place (2 ^ h) (subst (λ d. 2 ^ d ≤ place) same past) in
    ap (λ d. tree_chain d (filled (drop (2 ^ d) xs) (first + 2 ^ d) d) (place - 2 ^ d) ++ tree_root d (filled (take (2 ^ d) xs) first d) ∷ []) same
    ∙ (λ i. tree_chain h (sym (filled_right xs first h within) i) (place - 2 ^ h) ++ tree_root h (sym (filled_left xs first h within) i) ∷ [])
    ∙ ap (λ b. if b then tree_chain h (take (2 ^ h) (filled xs first (suc h))) place ++ tree_root h (drop (2 ^ h) (filled xs first (suc h))) ∷ [] else tree_chain h (drop (2 ^ h) (filled xs first (suc h))) (place - 2 ^ h) ++ tree_root h (take (2 ^ h) (filled xs first (suc h))) ∷ []) (sym test)
