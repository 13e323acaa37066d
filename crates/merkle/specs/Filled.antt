-- The leaves of a subtree; for private clauses.
use Rattle.std.specs.Prelude.{ℕ, ◌+◌, ◌-◌, ◌^◌, List, ◌++◌, map, length}
use Rattle.std.specs.List.{range_with_len}
use Rattle.merkle.specs.Node.{empty_leaf}

-- a beginning of the leaves of a subtree of height h, whose first leaf has the index `first`, and
-- padding leaves behind it
unfoldable pub filled : List (List ℕ) → ℕ → ℕ → List (List ℕ)
filled leaves first h = leaves ++ map empty_leaf (range_with_len (first + length leaves) (2 ^ h - length leaves))
