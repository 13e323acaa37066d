-- The state (FIPS 197, section 3.4): a table of 4 by 4 bytes. It is written as the list of its 16 bytes
-- column after column, the order in which a block's bytes enter and leave it.
use Rattle.std.specs.Prelude.{ℕ, ◌+◌, ◌*◌, ◌/◌, ◌%◌, List, map, slice_index}
use Rattle.std.specs.List.{range_with_len}

-- the byte in a row and a column
abbrev pub cell : List ℕ → ℕ → ℕ → ℕ
cell s row column = slice_index s (row + 4 * column)

-- the state that has f row column in each row and column
abbrev pub state : (ℕ → ℕ → ℕ) → List ℕ
state f = map (λ i. f (i % 4) (i / 4)) (range_with_len 0 16)
