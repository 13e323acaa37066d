-- Lists that need no padding, halves of lists, and hashes of 32 bytes.
use Rattle.std.proofs.Common.{◌≡◌, ℕ, zero, suc, ◌+◌, ◌-◌, ◌^◌, ◌<◌, List, [], ◌∷◌, ◌++◌, length, take, drop, map, refl, sym, ap, subst, ◌∙◌, arith, length-take, length-drop}
use Rattle.std.specs.Prelude.{nat_lt, if◌then◌else◌, All}
use Rattle.std.specs.List.{range_with_len}
use Rattle.std.proofs.lemmas.Nat.{pow_below}
use Rattle.std.proofs.lemmas.List.Elements.{All-append, All-take, All-drop, All-get_or, All-nil, All-cons}
use Rattle.tag_hash.proofs.HashLemmas.{length-tagged, length-pair}
use Rattle.tag_hash.specs.Decimal.{decimal_text}
use Rattle.merkle.specs.Height.{height}
use Rattle.merkle.specs.Node.{node, node_tag, empty_leaf, empty_leaf_tag}
use Rattle.merkle.specs.Tree.{root, padded, padding, tree_root}
use Rattle.merkle.specs.Chain.{chain, tree_chain}
use Rattle.merkle.proofs.Levels.{true_or_false, double, height_is}
use Rattle.merkle.proofs.FilledLemmas.{length-padded}

append_none : (xs : List (List ℕ)) → xs ++ [] ≡ xs
append_none [] = refl
append_none (x ∷ xs) = ap (λ t. x ∷ t) (append_none xs)

pub height-power : (h : ℕ) → height (2 ^ h) ≡ h
height-power h = height_is (2 ^ h) h (omega arith) (λ k less. pow_below k h less)

padded-full : (xs : List (List ℕ)) → 2 ^ height (length xs) ≡ length xs → padded xs ≡ xs
unfolding padded
padded-full xs full =
    let none : 2 ^ height (length xs) - length xs ≡ 0 = omega arith in
    ap (λ n. xs ++ map empty_leaf (range_with_len (length xs) n)) none ∙ append_none xs

power_height : (n h : ℕ) → n ≡ 2 ^ h → height n ≡ h
power_height n h is = ap height is ∙ height-power h

pub padded-power : (h : ℕ) (xs : List (List ℕ)) → length xs ≡ 2 ^ h → padded xs ≡ xs
padded-power h xs long = padded-full xs (ap (λ n. 2 ^ n) (power_height (length xs) h long) ∙ sym long)

pub root-power : (h : ℕ) (xs : List (List ℕ)) → length xs ≡ 2 ^ h → root xs ≡ tree_root h xs
unfolding root
root-power h xs long = (λ i. tree_root (power_height (length xs) h long i) (padded-power h xs long i))

root-is : (xs : List (List ℕ)) → root xs ≡ tree_root (height (length xs)) (padded xs)
unfolding root
root-is xs = refl

-- the root of a list is that of the list with its padding
pub root-padded : (xs : List (List ℕ)) → root (padded xs) ≡ root xs
root-padded xs = root-power (height (length xs)) (padded xs) (length-padded xs) ∙ sym (root-is xs)

pub root-one : (leaf : List ℕ) → root (leaf ∷ []) ≡ leaf
root-one leaf = root-power 0 (leaf ∷ []) refl

pub root-halves : (h : ℕ) (xs : List (List ℕ)) → length xs ≡ 2 ^ (h + 1) → root xs ≡ node (root (take (2 ^ h) xs)) (root (drop (2 ^ h) xs))
root-halves h xs long =
    let next : h + 1 ≡ suc h = omega arith in
    let twice : 2 ^ suc h ≡ 2 ^ h + 2 ^ h = double h in
    let whole : length xs ≡ 2 ^ suc h = long ∙ ap (λ n. 2 ^ n) next in
    let left : length (take (2 ^ h) xs) ≡ 2 ^ h = omega (arith, length-take (2 ^ h) xs) in
    let right : length (drop (2 ^ h) xs) ≡ 2 ^ h = omega (arith, length-drop (2 ^ h) xs) in
    root-power (suc h) xs whole ∙ (λ i. node (sym (root-power h (take (2 ^ h) xs) left) i) (sym (root-power h (drop (2 ^ h) xs) right) i))

-- ---- hashes of 32 bytes

abbrev pub Hash : List ℕ → Type 0
Hash bytes = length bytes ≡ 32

length-node : (a b : List ℕ) → length (node a b) ≡ 32
unfolding node
length-node a b = length-pair node_tag a b

length-empty_leaf : (n : ℕ) → length (empty_leaf n) ≡ 32
unfolding empty_leaf
length-empty_leaf n = length-tagged empty_leaf_tag (decimal_text n)

pads_hashes : (first count : ℕ) → All Hash (map empty_leaf (range_with_len first count))
pads_hashes first zero = All-nil Hash
pads_hashes first (suc count) = All-cons Hash (empty_leaf first) (map empty_leaf (range_with_len (first + 1) count)) (length-empty_leaf first) (pads_hashes (first + 1) count)

padded_hashes : (xs : List (List ℕ)) → All Hash xs → All Hash (padded xs)
unfolding padded
padded_hashes xs all = All-append Hash xs (map empty_leaf (padding xs)) all (pads_hashes (length xs) (2 ^ height (length xs) - length xs))

tree_root_hash : (h : ℕ) (xs : List (List ℕ)) → 0 < length xs → All Hash xs → Hash (tree_root h xs)
tree_root_hash zero xs some all = All-get_or Hash xs 0 [] some all
tree_root_hash (suc h) xs some all = length-node (tree_root h (take (2 ^ h) xs)) (tree_root h (drop (2 ^ h) xs))

positive : (h : ℕ) → 0 < 2 ^ h
positive zero = omega arith
positive (suc h) = let one = positive h in let two = double h in omega arith

pub root_hash : (xs : List (List ℕ)) → All Hash xs → Hash (root xs)
unfolding root
root_hash xs all = tree_root_hash (height (length xs)) (padded xs) (subst (λ n. 0 < n) (sym (length-padded xs)) (positive (height (length xs)))) (padded_hashes xs all)

tree_chain_hashes : (h : ℕ) (xs : List (List ℕ)) (place : ℕ) → length xs ≡ 2 ^ h → All Hash xs → All Hash (tree_chain h xs place)
tree_chain_hashes zero xs place long all = All-nil Hash
tree_chain_hashes (suc h) xs place long all =
    let twice : 2 ^ suc h ≡ 2 ^ h + 2 ^ h = double h in
    let some = positive h in
    let left : length (take (2 ^ h) xs) ≡ 2 ^ h = omega (arith, length-take (2 ^ h) xs) in
    let right : length (drop (2 ^ h) xs) ≡ 2 ^ h = omega (arith, length-drop (2 ^ h) xs) in
    let lefts = All-take Hash (2 ^ h) xs all in
    let rights = All-drop Hash (2 ^ h) xs all in
    true_or_false (nat_lt place (2 ^ h)) _
    (λ test. subst (λ b. All Hash (if b then tree_chain h (take (2 ^ h) xs) place ++ tree_root h (drop (2 ^ h) xs) ∷ [] else tree_chain h (drop (2 ^ h) xs) (place - 2 ^ h) ++ tree_root h (take (2 ^ h) xs) ∷ [])) (sym test)
    (All-append Hash (tree_chain h (take (2 ^ h) xs) place) (tree_root h (drop (2 ^ h) xs) ∷ []) (tree_chain_hashes h (take (2 ^ h) xs) place left lefts)
    (All-cons Hash (tree_root h (drop (2 ^ h) xs)) [] (tree_root_hash h (drop (2 ^ h) xs) (omega arith) rights) (All-nil Hash))))
    (λ test. subst (λ b. All Hash (if b then tree_chain h (take (2 ^ h) xs) place ++ tree_root h (drop (2 ^ h) xs) ∷ [] else tree_chain h (drop (2 ^ h) xs) (place - 2 ^ h) ++ tree_root h (take (2 ^ h) xs) ∷ [])) (sym test)
    (All-append Hash (tree_chain h (drop (2 ^ h) xs) (place - 2 ^ h)) (tree_root h (take (2 ^ h) xs) ∷ []) (tree_chain_hashes h (drop (2 ^ h) xs) (place - 2 ^ h) right rights)
    (All-cons Hash (tree_root h (take (2 ^ h) xs)) [] (tree_root_hash h (take (2 ^ h) xs) (omega arith) lefts) (All-nil Hash))))

pub chain_hashes : (xs : List (List ℕ)) (place : ℕ) → All Hash xs → All Hash (chain xs place)
unfolding chain
chain_hashes xs place all = tree_chain_hashes (height (length xs)) (padded xs) place (length-padded xs) (padded_hashes xs all)
