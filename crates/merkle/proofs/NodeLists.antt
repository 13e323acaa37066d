-- The list of a tree's nodes: how many they are, and where the halves' nodes and roots stand.
use Rattle.std.proofs.Common.{◌≡◌, ℕ, zero, suc, ◌+◌, ◌-◌, ◌*◌, ◌^◌, ◌<◌, ◌≤◌, ◌≢◌, List, [], ◌∷◌, ◌++◌, length, take, drop, get_or, true, false, refl, sym, ap, subst, ◌∙◌, arith, length-append}
use Rattle.std.specs.Prelude.{nat_lt, if◌then◌else◌}
use Rattle.std.proofs.lemmas.List.{append_assoc}
use Rattle.std.proofs.Math.Seq.{take-append_seam, drop-append_seam, get_or-append_seam}
use Rattle.merkle.specs.Tree.{tree_root}
use Rattle.merkle.specs.Nodes.{tree_nodes}
use Rattle.merkle.specs.Chain.{tree_chain}
use Rattle.merkle.specs.Filled.{filled}
use Rattle.merkle.proofs.Levels.{double, pow_next, pow_positive, pow_monotone, below, not_below, below_is, not_below_is, true_or_false}
use Rattle.merkle.proofs.FilledLemmas.{filled_left, filled_right}

pub length-tree_nodes : (h : ℕ) (xs : List (List ℕ)) → length (tree_nodes h xs) + 1 ≡ 2 ^ (h + 1)
length-tree_nodes zero xs = refl
length-tree_nodes (suc h) xs =
    let left = length-tree_nodes h (take (2 ^ h) xs) in
    let right = length-tree_nodes h (drop (2 ^ h) xs) in
    let here = pow_next h in
    let next : 2 ^ (suc h + 1) ≡ 2 ^ (h + 1) + 2 ^ (h + 1) = ap (λ n. 2 ^ n) (let e : suc h + 1 ≡ suc (h + 1) = omega arith in e) ∙ double (h + 1) in
    omega (arith, length-append (tree_nodes h (take (2 ^ h) xs)) (tree_nodes h (drop (2 ^ h) xs) ++ tree_root (suc h) xs ∷ []), length-append (tree_nodes h (drop (2 ^ h) xs)) (tree_root (suc h) xs ∷ []))

-- the root stands last
pub last_node : (h : ℕ) (xs : List (List ℕ)) (place : ℕ) → place + 1 ≡ length (tree_nodes h xs) → get_or (tree_nodes h xs) place [] ≡ tree_root h xs
last_node zero xs place last = ap (λ n. get_or (tree_nodes 0 xs) n []) (let first : place ≡ 0 = omega arith in first)
last_node (suc h) xs place last =
    let left = tree_nodes h (take (2 ^ h) xs) in
    let right = tree_nodes h (drop (2 ^ h) xs) in
    let top = tree_root (suc h) xs in
    let regrouped : left ++ (right ++ top ∷ []) ≡ (left ++ right) ++ top ∷ [] = sym (append_assoc left right (top ∷ [])) in
    let here : place ≡ length (left ++ right) = omega (arith, length-append left right, length-append left (right ++ top ∷ []), length-append right (top ∷ [])) in
    (λ i. get_or (regrouped i) (here i) []) ∙ get_or-append_seam (left ++ right) top [] []

-- the nodes of both halves
pub left_nodes : (h : ℕ) (xs : List (List ℕ)) (count : ℕ) → count + 1 ≡ 2 ^ (h + 1) → take count (tree_nodes (suc h) xs) ≡ tree_nodes h (take (2 ^ h) xs)
left_nodes h xs count size =
    let left = tree_nodes h (take (2 ^ h) xs) in
    let long : count ≡ length left = omega (arith, length-tree_nodes h (take (2 ^ h) xs)) in
    ap (λ n. take n (tree_nodes (suc h) xs)) long ∙ take-append_seam left (tree_nodes h (drop (2 ^ h) xs) ++ tree_root (suc h) xs ∷ [])

pub right_nodes : (h : ℕ) (xs : List (List ℕ)) (count : ℕ) → count + 1 ≡ 2 ^ (h + 1) → take count (drop count (tree_nodes (suc h) xs)) ≡ tree_nodes h (drop (2 ^ h) xs)
right_nodes h xs count size =
    let left = tree_nodes h (take (2 ^ h) xs) in
    let right = tree_nodes h (drop (2 ^ h) xs) in
    let first : count ≡ length left = omega (arith, length-tree_nodes h (take (2 ^ h) xs)) in
    let second : count ≡ length right = omega (arith, length-tree_nodes h (drop (2 ^ h) xs)) in
    (λ i. take (second i) (drop (first i) (tree_nodes (suc h) xs)))
    ∙ ap (λ t. take (length right) t) (drop-append_seam left (right ++ tree_root (suc h) xs ∷ []))
    ∙ take-append_seam right (tree_root (suc h) xs ∷ [])

-- the nodes of a list with its padding
pub tree_nodes-filled : (xs : List (List ℕ)) (first h : ℕ) → h ≢ 0 → length xs ≤ 2 ^ h
    → tree_nodes (h - 1) (filled (take (2 ^ (h - 1)) xs) first (h - 1)) ++ (tree_nodes (h - 1) (filled (drop (2 ^ (h - 1)) xs) (first + 2 ^ (h - 1)) (h - 1)) ++ tree_root h (filled xs first h) ∷ []) ≡ tree_nodes h (filled xs first h)
tree_nodes-filled xs first zero some within = absurd (some refl)
tree_nodes-filled xs first (suc h) some within =
    let same : suc h - 1 ≡ h = omega arith in
    ap (λ d. tree_nodes d (filled (take (2 ^ d) xs) first d) ++ (tree_nodes d (filled (drop (2 ^ d) xs) (first + 2 ^ d) d) ++ tree_root (suc h) (filled xs first (suc h)) ∷ [])) same
    ∙ (λ i. tree_nodes h (sym (filled_left xs first h within) i) ++ (tree_nodes h (sym (filled_right xs first h within) i) ++ tree_root (suc h) (filled xs first (suc h)) ∷ []))

any_default : (xs : List (List ℕ)) (n : ℕ) (a b : List ℕ) → n < length xs → get_or xs n a ≡ get_or xs n b
any_default [] n a b inside = absurd (omega arith)
any_default (x ∷ xs) zero a b inside = refl
any_default (x ∷ xs) (suc n) a b inside = any_default xs n a b (omega arith)

-- the same for a height that is not 0
pub left_of : (nodes leaves part : List (List ℕ)) (count h : ℕ) → h ≢ 0 → nodes ≡ tree_nodes h leaves → count + 1 ≡ 2 ^ (h - 1 + 1) → part ≡ take count nodes → part ≡ tree_nodes (h - 1) (take (2 ^ (h - 1)) leaves)
left_of nodes leaves part count zero some is size cut = absurd (some refl)
left_of nodes leaves part count (suc h) some is size cut =
    let same : suc h - 1 ≡ h = omega arith in
    cut ∙ ap (take count) is ∙ left_nodes h leaves count (size ∙ ap (λ d. 2 ^ (d + 1)) same) ∙ ap (λ d. tree_nodes d (take (2 ^ d) leaves)) (sym same)

pub right_of : (nodes leaves part : List (List ℕ)) (count h : ℕ) → h ≢ 0 → nodes ≡ tree_nodes h leaves → count + 1 ≡ 2 ^ (h - 1 + 1) → part ≡ take count (drop count nodes) → part ≡ tree_nodes (h - 1) (drop (2 ^ (h - 1)) leaves)
right_of nodes leaves part count zero some is size cut = absurd (some refl)
right_of nodes leaves part count (suc h) some is size cut =
    let same : suc h - 1 ≡ h = omega arith in
    cut ∙ ap (λ t. take count (drop count t)) is ∙ right_nodes h leaves count (size ∙ ap (λ d. 2 ^ (d + 1)) same) ∙ ap (λ d. tree_nodes d (drop (2 ^ d) leaves)) (sym same)

-- the root, read at the last place
pub last_of : (nodes leaves : List (List ℕ)) (count h : ℕ) (other : List ℕ) → nodes ≡ tree_nodes h leaves → count + 1 ≡ 2 ^ (h + 1) → get_or nodes (count - 1) other ≡ tree_root h leaves
last_of nodes leaves count h other is size =
    let positive = pow_positive h in
    let next = pow_next h in
    let long = length-tree_nodes h leaves in
    let last : count - 1 + 1 ≡ length (tree_nodes h leaves) = omega arith in
    ap (λ t. get_or t (count - 1) other) is ∙ any_default (tree_nodes h leaves) (count - 1) other [] (omega arith) ∙ last_node h leaves (count - 1) last

-- one level of a chain
pub chain_from_left : (leaves : List (List ℕ)) (h place : ℕ) → h ≢ 0 → place < 2 ^ (h - 1) → tree_chain (h - 1) (take (2 ^ (h - 1)) leaves) place ++ tree_root (h - 1) (drop (2 ^ (h - 1)) leaves) ∷ [] ≡ tree_chain h leaves place
chain_from_left leaves zero place some inside = absurd (some refl)
chain_from_left leaves (suc h) place some inside =
    let same : suc h - 1 ≡ h = omega arith in
    let test : nat_lt place (2 ^ h) ≡ true = below place (2 ^ h) (subst (λ d. place < 2 ^ d) same inside) in
    ap (λ d. tree_chain d (take (2 ^ d) leaves) place ++ tree_root d (drop (2 ^ d) leaves) ∷ []) same
    ∙ ap (λ b. if b then tree_chain h (take (2 ^ h) leaves) place ++ tree_root h (drop (2 ^ h) leaves) ∷ [] else tree_chain h (drop (2 ^ h) leaves) (place - 2 ^ h) ++ tree_root h (take (2 ^ h) leaves) ∷ []) (sym test)

pub chain_from_right : (leaves : List (List ℕ)) (h place : ℕ) → h ≢ 0 → 2 ^ (h - 1) ≤ place → tree_chain (h - 1) (drop (2 ^ (h - 1)) leaves) (place - 2 ^ (h - 1)) ++ tree_root (h - 1) (take (2 ^ (h - 1)) leaves) ∷ [] ≡ tree_chain h leaves place
chain_from_right leaves zero place some past = absurd (some refl)
chain_from_right leaves (suc h) place some past =
    let same : suc h - 1 ≡ h = omega arith in
    let test : nat_lt place (2 ^ h) ≡ false = not_below place (2 ^ h) (subst (λ d. 2 ^ d ≤ place) same past) in
    ap (λ d. tree_chain d (drop (2 ^ d) leaves) (place - 2 ^ d) ++ tree_root d (take (2 ^ d) leaves) ∷ []) same
    ∙ ap (λ b. if b then tree_chain h (take (2 ^ h) leaves) place ++ tree_root h (drop (2 ^ h) leaves) ∷ [] else tree_chain h (drop (2 ^ h) leaves) (place - 2 ^ h) ++ tree_root h (take (2 ^ h) leaves) ∷ []) (sym test)

-- nodes that are kept are few enough
pub kept_low : (h count : ℕ) → count + 1 ≡ 2 ^ (h + 1) → count * 32 < 9223372036854775808 → h < 63
kept_low h count size room = true_or_false (nat_lt h 63) _
    (λ test. below_is h 63 test)
    (λ test. absurd (let far = not_below_is h 63 test in let large : 2 ^ 64 ≤ 2 ^ (h + 1) = pow_monotone 64 (h + 1) (omega arith) in omega arith))
