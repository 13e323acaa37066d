use Rattle.std.proofs.Common.{◌≡◌, ℕ, List, [], ◌∷◌, sym, ◌∙◌}
use Rattle.std.specs.Prelude.{Some, None, slice_get}
use Rattle.merkle.specs.Node.{empty_leaf}
use Rattle.merkle.specs.Tree.{tree_root}
use Rattle.merkle.specs.Filled.{filled}
use Rattle.merkle.proofs.FilledLemmas.{filled_leaf, filled_empty}
use Rattle.merkle.proofs.trees.padded_leaf.Goals as goal

leaf_there : (xs : List (List ℕ)) (first : ℕ) (x : List ℕ) → Some x ≡ slice_get xs 0 → x ≡ tree_root 0 (filled xs first 0)
leaf_there [] first x found = absurd (cc)
leaf_there (y ∷ xs) first x found =
    let same : x ≡ y = cc in
    same ∙ sym (filled_leaf y xs first)

leaf_missing : (xs : List (List ℕ)) (first : ℕ) → None ≡ slice_get xs 0 → empty_leaf first ≡ tree_root 0 (filled xs first 0)
leaf_missing [] first found = sym (filled_empty first)
leaf_missing (y ∷ xs) first found = absurd (cc)

pub returns-in-Some : goal.returns-in-Some
returns-in-Some c = leaf_there c.args.leaves.now c.args.index c.in-Some.leaf.now c.in-Some.ensures.value

pub returns-in-None : goal.returns-in-None
returns-in-None c = c.empty_leaf.ensures ∙ leaf_missing c.args.leaves.now c.args.index c.in-None.ensures.value
