-- All nodes of a tree.
use Rattle.std.specs.Prelude.{ℕ, zero, suc, ◌^◌, List, [], ◌∷◌, ◌++◌, take, drop, slice_index_or}
use Rattle.merkle.specs.Tree.{tree_root}

-- of 2 ^ h leaves: those of the left half, those of the right half, and the root
abbrev pub tree_nodes : ℕ → List (List ℕ) → List (List ℕ)
tree_nodes zero leaves = slice_index_or leaves 0 [] ∷ []
tree_nodes (suc h) leaves =
    tree_nodes h (take (2 ^ h) leaves) ++ (tree_nodes h (drop (2 ^ h) leaves) ++ tree_root (suc h) leaves ∷ [])
