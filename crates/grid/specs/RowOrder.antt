-- The order of rows.
use Rattle.std.specs.Prelude.{◌≡◌, ℕ, Bool, true, ◌&&◌, List, [], ◌∷◌, Option, Some, None}
use Rattle.std.specs.Ordering.{is_lt, ordering_then, nat_cmp}
use Rattle.std.specs.declared.cmp.Ordering.{Ordering}
use Rattle.std.specs.declared.cmp.Ordering.TheVariants.{Less}
use Rattle.share_store.specs.Shares.{ShareKey, key_cmp}
use Rattle.grid.specs.Rows.{Row}

-- a server, and a storage index and number there
abbrev pub RowKey : Type 0
RowKey = ℕ × ShareKey

-- by the server, and then as in a store
abbrev pub row_cmp : RowKey → RowKey → Ordering
row_cmp a b = ordering_then (nat_cmp a.0 b.0) (key_cmp a.1 b.1)

abbrev pub row_key : Row → RowKey
row_key row = (row.0, row.1.0)

-- whether a share's place comes after that of the share before it
abbrev pub comes_after : Option RowKey → RowKey → Bool
comes_after None key = true
comes_after (Some last) key = is_lt (row_cmp last key)

-- whether each row comes after the one before it
abbrev pub in_order : Option RowKey → List Row → Bool
in_order last [] = true
in_order last (row ∷ rows) = comes_after last (row_key row) && in_order (Some (row_key row)) rows

-- each of these rows stands before this key; for private clauses
abbrev pub AllBefore : List Row → RowKey → Type 0
AllBefore [] key = Unit {0}
AllBefore (row ∷ rows) key = (row_cmp (row_key row) key ≡ Less) × AllBefore rows key
