-- The root of a list of leaves, by halves (Tahoe-LAFS, file encoding), and the uses of the hash in it.
use Rattle.std.specs.Prelude.{ℕ, zero, suc, ◌-◌, ◌^◌, List, [], ◌∷◌, ◌++◌, map, length, take, drop, slice_index_or}
use Rattle.std.specs.List.{range_with_len}
use Rattle.tag_hash.specs.Use.{Use}
use Rattle.merkle.specs.Height.{height}
use Rattle.merkle.specs.Node.{node, node_use, empty_leaf, empty_leaf_use}

-- the indexes of the padding leaves: they fill the list up to a power of two
abbrev pub padding : List (List ℕ) → List ℕ
padding leaves = range_with_len (length leaves) (2 ^ height (length leaves) - length leaves)

unfoldable pub padded : List (List ℕ) → List (List ℕ)
padded leaves = leaves ++ map empty_leaf (padding leaves)

-- the root of 2 ^ h leaves: the leaf, or the node over the roots of both halves
abbrev pub tree_root : ℕ → List (List ℕ) → List ℕ
tree_root zero leaves = slice_index_or leaves 0 []
tree_root (suc h) leaves = node (tree_root h (take (2 ^ h) leaves)) (tree_root h (drop (2 ^ h) leaves))

abbrev pub tree_uses : ℕ → List (List ℕ) → List Use
tree_uses zero leaves = []
tree_uses (suc h) leaves =
    node_use (tree_root h (take (2 ^ h) leaves)) (tree_root h (drop (2 ^ h) leaves))
    ∷ (tree_uses h (take (2 ^ h) leaves) ++ tree_uses h (drop (2 ^ h) leaves))

-- the root of any number of leaves, but of none it is a padding leaf
unfoldable pub root : List (List ℕ) → List ℕ
root leaves = tree_root (height (length leaves)) (padded leaves)

unfoldable pub root_uses : List (List ℕ) → List Use
root_uses leaves = map empty_leaf_use (padding leaves) ++ tree_uses (height (length leaves)) (padded leaves)
