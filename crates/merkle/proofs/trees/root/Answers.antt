use Rattle.std.proofs.Common.{◌≡◌, ℕ, ◌^◌, ◌≤◌, List, length, sym, ap, subst, ◌∙◌, arith}
use Rattle.merkle.specs.Height.{height}
use Rattle.merkle.specs.Tree.{root, tree_root}
use Rattle.merkle.specs.Filled.{filled}
use Rattle.merkle.proofs.Levels.{height_fits, height_least, pow_monotone}
use Rattle.merkle.proofs.FilledLemmas.{padded_is}
use Rattle.merkle.proofs.trees.root.Goals as goal

pub subtree_root-requires-clause-within : goal.subtree_root-requires-clause-within
subtree_root-requires-clause-within c = subst (λ h. length c.args.leaves.now ≤ 2 ^ h) (sym c.height.ensures) (height_fits (length c.args.leaves.now))

pub subtree_root-requires-clause-room : goal.subtree_root-requires-clause-room
subtree_root-requires-clause-room c =
    let low : height (length c.args.leaves.now) ≤ 64 = height_least (length c.args.leaves.now) 64 (omega arith) in
    let room = pow_monotone c.height.result 64 (omega (arith, c.height.ensures)) in
    omega arith

whole : (xs : List (List ℕ)) (h : ℕ) → h ≡ height (length xs) → tree_root h (filled xs 0 h) ≡ root xs
unfolding root
whole xs h is = ap (λ d. tree_root d (filled xs 0 d)) is ∙ ap (tree_root (height (length xs))) (sym (padded_is xs))

pub returns : goal.returns
returns c = c.subtree_root.ensures ∙ whole c.args.leaves.now c.height.result c.height.ensures
