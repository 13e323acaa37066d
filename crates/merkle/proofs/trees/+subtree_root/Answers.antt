use Rattle.std.proofs.Common.{◌≡◌, ℕ, ◌+◌, ◌-◌, ◌^◌, ◌≤◌, List, length, take, drop, sym, ap, subst, ◌∙◌, arith}
use Rattle.merkle.specs.Node.{node}
use Rattle.merkle.specs.Tree.{tree_root}
use Rattle.merkle.specs.Filled.{filled}
use Rattle.merkle.proofs.Levels.{low, half_room}
use Rattle.merkle.proofs.FilledLemmas.{tree_root-filled, left_within, right_within}
use Rattle.merkle.proofs.trees.+subtree_root.Goals as goal

pub returns-then-height-eq0 : goal.returns-then-height-eq0
returns-then-height-eq0 t c = c.padded_leaf.ensures ∙ ap (λ h. tree_root h (filled c.args.leaves.now c.args.first h)) (sym c.if-height-eq0.true)

pub leaf_count-half-requires : goal.leaf_count-half-requires
leaf_count-half-requires t c = let most = low c.args.height (omega arith) in let some = c.if-height-eq0.false in omega arith

left_part : (half : ℕ) (xs part : List (List ℕ)) (h : ℕ) → half ≡ 2 ^ h → part ≡ take half xs → part ≡ take (2 ^ h) xs
left_part half xs part h size is = is ∙ ap (λ n. take n xs) size

right_part : (half : ℕ) (xs part : List (List ℕ)) (h : ℕ) → half ≡ 2 ^ h → part ≡ drop half xs → part ≡ drop (2 ^ h) xs
right_part half xs part h size is = is ∙ ap (λ n. drop n xs) size

pub subtree_root-requires : goal.subtree_root-requires
subtree_root-requires t c =
    let twice = half_room c.args.height c.if-height-eq0.false in
    let left = left_part c.leaf_count-half.result c.args.leaves.now c.halves.result.0.now (c.args.height - 1) c.leaf_count-half.ensures c.halves.ensures.left in
    (omega (arith, c.decreases), (subst (λ part. length part ≤ 2 ^ (c.args.height - 1)) (sym left) (left_within c.args.leaves.now (c.args.height - 1)), omega arith))

pub overflow_add-first : goal.overflow_add-first
overflow_add-first t c = let twice = half_room c.args.height c.if-height-eq0.false in omega arith

pub subtree_root-requires-2 : goal.subtree_root-requires-2
subtree_root-requires-2 t c =
    let twice = half_room c.args.height c.if-height-eq0.false in
    let right = right_part c.leaf_count-half.result c.args.leaves.now c.halves.result.1.now (c.args.height - 1) c.leaf_count-half.ensures c.halves.ensures.right in
    (omega (arith, c.decreases), (subst (λ part. length part ≤ 2 ^ (c.args.height - 1)) (sym right) (right_within c.args.leaves.now c.args.height c.if-height-eq0.false c.requires.within), omega arith))

pub returns : goal.returns
returns t c =
    let xs = c.args.leaves.now in
    let d = c.args.height - 1 in
    let left = left_part c.leaf_count-half.result xs c.halves.result.0.now d c.leaf_count-half.ensures c.halves.ensures.left in
    let right = right_part c.leaf_count-half.result xs c.halves.result.1.now d c.leaf_count-half.ensures c.halves.ensures.right in
    c.node.ensures
    ∙ (λ i. node (c.subtree_root.ensures i) (c.subtree_root-2.ensures i))
    ∙ (λ i. node (tree_root d (filled (left i) c.args.first d)) (tree_root d (filled (right i) (c.args.first + c.leaf_count-half.ensures i) d)))
    ∙ tree_root-filled xs c.args.first c.args.height c.if-height-eq0.false c.requires.within
