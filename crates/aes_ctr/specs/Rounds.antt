-- The four steps of a round (FIPS 197, sections 5.1.1 to 5.1.4). The sum of two bytes is their
-- exclusive or.
use Rattle.std.specs.Prelude.{ℕ, ◌+◌, ◌%◌, List, bit_xor}
use Rattle.aes_ctr.specs.Field.{times}
use Rattle.aes_ctr.specs.SBox.{s_box}
use Rattle.aes_ctr.specs.State.{cell, state}

-- SubBytes: each byte goes through the S-box
unfoldable pub sub_bytes : List ℕ → List ℕ
sub_bytes s = state (λ row column. s_box (cell s row column))

-- ShiftRows: row r turns to the left by r bytes
unfoldable pub shift_rows : List ℕ → List ℕ
shift_rows s = state (λ row column. cell s row ((column + row) % 4))

-- a byte of MixColumns from the byte a of its place, the byte b below it, round the column's end, and the
-- two others
unfoldable pub mixed : ℕ → ℕ → ℕ → ℕ → ℕ
mixed a b c d = bit_xor (bit_xor (times 2 a) (times 3 b)) (bit_xor c d)

-- MixColumns: each byte is mixed from those of its column
unfoldable pub mix_columns : List ℕ → List ℕ
mix_columns s = state (λ row column.
    mixed (cell s row column) (cell s ((row + 1) % 4) column) (cell s ((row + 2) % 4) column)
    (cell s ((row + 3) % 4) column))

-- AddRoundKey: the sum with a round key, byte by byte
unfoldable pub add_round_key : List ℕ → List ℕ → List ℕ
add_round_key s key = state (λ row column. bit_xor (cell s row column) (cell key row column))
