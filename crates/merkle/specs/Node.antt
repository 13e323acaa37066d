-- The hashes in a tree: inner nodes and padding leaves, and the use of the hash in each.
use Rattle.std.specs.Prelude.{ℕ, List, codes}
use Rattle.tag_hash.specs.Decimal.{decimal_text}
use Rattle.tag_hash.specs.Pair.{pair, pair_use}
use Rattle.tag_hash.specs.Tagged.{tagged, tagged_use}
use Rattle.tag_hash.specs.Use.{Use}

unfoldable pub node_tag : List ℕ
node_tag = codes "webgate_tree_node_v1"

unfoldable pub empty_leaf_tag : List ℕ
empty_leaf_tag = codes "webgate_tree_empty_leaf_v1"

-- the node over two others
unfoldable pub node : List ℕ → List ℕ → List ℕ
node left right = pair node_tag left right

unfoldable pub node_use : List ℕ → List ℕ → Use
node_use left right = pair_use node_tag left right

-- the padding leaf at an index
unfoldable pub empty_leaf : ℕ → List ℕ
empty_leaf index = tagged empty_leaf_tag (decimal_text index)

unfoldable pub empty_leaf_use : ℕ → Use
empty_leaf_use index = tagged_use empty_leaf_tag (decimal_text index)
