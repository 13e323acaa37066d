-- KeyExpansion for a key of 128 bits (FIPS 197, section 5.2). A round key is a state, whose columns are
-- four words of the schedule; round key 0 is the key itself.
use Rattle.std.specs.Prelude.{◌≡◌, ◌<◌, ℕ, zero, suc, ◌+◌, ◌%◌, ◌==◌, List, [], bit_xor, slice_index_or, if◌then◌else◌}
use Rattle.aes_ctr.specs.Field.{times_x}
use Rattle.aes_ctr.specs.SBox.{s_box}
use Rattle.aes_ctr.specs.State.{cell, state}

-- x to the power n in the field: Rcon of round n + 1
unfoldable pub x_power : ℕ → ℕ
x_power zero = 1
x_power (suc n) = times_x (x_power n)

-- what round n + 1 adds to column 0: the last column of the round key before, turned up by one row and
-- through the S-box, and Rcon in the first row
unfoldable pub turned_column : List ℕ → ℕ → ℕ → ℕ
turned_column key n row =
    bit_xor (s_box (cell key ((row + 1) % 4) 3)) (if row == 0 then x_power n else 0)

-- a byte of round key n + 1, from round key n: the byte in the same place there, added to the byte of the
-- new round key in the column before, or in column 0 to the turned column
unfoldable pub next_cell : List ℕ → ℕ → ℕ → ℕ → ℕ
next_cell key n row zero = bit_xor (cell key row 0) (turned_column key n row)
next_cell key n row (suc column) = bit_xor (cell key row (suc column)) (next_cell key n row column)

-- round key n + 1, from round key n
unfoldable pub next_round_key : List ℕ → ℕ → List ℕ
next_round_key key n = state (next_cell key n)

-- round key n of a key of 16 bytes
unfoldable pub round_key : List ℕ → ℕ → List ℕ
round_key key zero = key
round_key key (suc n) = next_round_key (round_key key n) n

-- eleven round keys of a key
abbrev pub AreRoundKeys : List ℕ → List (List ℕ) → Type 0
AreRoundKeys key keys = (n : ℕ) → n < 11 → slice_index_or keys n [] ≡ round_key key n
