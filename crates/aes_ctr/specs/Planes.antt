-- Sixteen states bit by bit, in eight vectors of 32 bytes: the first eight states in the lower half, the others in the
-- upper half. Plane b has, at bit j of byte i of a half, bit b of byte i of state j of that half. So what is done to one
-- plane's bits, or between planes, is done to 256 bytes at once; for private clauses.
use Rattle.std.specs.Prelude.{◌≡◌, ℕ, ◌+◌, ◌*◌, ◌/◌, ◌%◌, ◌<◌, List, [], ◌∷◌, map, slice_index, slice_index_or}
use Rattle.std.specs.List.{range_with_len}
use Rattle.std.specs.Int.{bit_at}
use Rattle.aes_ctr.specs.Field.{times_x}
use Rattle.aes_ctr.specs.State.{cell, state}
use Rattle.aes_ctr.specs.KeyExpansion.{round_key}

-- the vector with f i in lane i
abbrev pub lanes : (ℕ → ℕ) → List ℕ
lanes f =
    f 0 ∷ f 1 ∷ f 2 ∷ f 3 ∷ f 4 ∷ f 5 ∷ f 6 ∷ f 7 ∷ f 8 ∷ f 9 ∷ f 10 ∷ f 11 ∷ f 12 ∷ f 13 ∷ f 14 ∷ f 15
    ∷ f 16 ∷ f 17 ∷ f 18 ∷ f 19 ∷ f 20 ∷ f 21 ∷ f 22 ∷ f 23 ∷ f 24 ∷ f 25 ∷ f 26 ∷ f 27 ∷ f 28 ∷ f 29 ∷ f 30 ∷ f 31 ∷ []

-- n vectors, with the first n numbers of f i in lane i
abbrev pub plane_vectors : ℕ → (ℕ → List ℕ) → List (List ℕ)
plane_vectors n f = map (λ k. lanes (λ i. slice_index (f i) k)) (range_with_len 0 n)

-- the vector with the 16 bytes of s 0 in its lower half, and those of s 1 in its upper half
abbrev pub halves : (ℕ → List ℕ) → List ℕ
halves s = lanes (λ i. slice_index (s (i / 16)) (i % 16))

-- the byte with these bits, the lowest first
unfoldable pub byte_of : (ℕ → ℕ) → ℕ
byte_of g = g 0 + 2 * g 1 + 4 * g 2 + 8 * g 3 + 16 * g 4 + 32 * g 5 + 64 * g 6 + 128 * g 7

-- bit b of each of eight bytes, that of byte j at bit j
unfoldable pub sliced : (ℕ → ℕ) → ℕ → ℕ
sliced a b = byte_of (λ j. bit_at (a j) b)

-- eight bytes bit by bit
abbrev pub slices : (ℕ → ℕ) → List ℕ
slices a =
    sliced a 0 ∷ sliced a 1 ∷ sliced a 2 ∷ sliced a 3 ∷ sliced a 4 ∷ sliced a 5 ∷ sliced a 6 ∷ sliced a 7 ∷ []

-- the byte in lane i of state j of its half
abbrev pub byte_in : (ℕ → List ℕ) → ℕ → ℕ → ℕ
byte_in s i j = slice_index (s (j + 8 * (i / 16))) (i % 16)

-- sixteen states bit by bit
abbrev pub planes : (ℕ → List ℕ) → List (List ℕ)
planes s = plane_vectors 8 (λ i. slices (byte_in s i))

-- the vectors of sixteen states, each of 16 bytes: state j lies beside state j + 8
abbrev pub each_block : (ℕ → List ℕ) → List (List ℕ)
each_block s = map (λ j. lanes (λ i. byte_in s i j)) (range_with_len 0 8)

-- a state whose rows went up by n, the first ones to the end
unfoldable pub raised_rows : ℕ → List ℕ → List ℕ
raised_rows n s = state (λ row column. cell s ((row + n) % 4) column)

-- each byte of a state times x
unfoldable pub doubled : List ℕ → List ℕ
doubled s = state (λ row column. times_x (cell s row column))

-- the planes of eleven round keys, each for all sixteen states
abbrev pub AreKeyPlanes : List ℕ → List (List (List ℕ)) → Type 0
AreKeyPlanes key keys = (n : ℕ) → n < 11 → slice_index_or keys n [] ≡ planes (λ j. round_key key n)

-- whether each number of sixteen states is a byte
abbrev pub AreByteStates : (ℕ → List ℕ) → Type 0
AreByteStates s = (j i : ℕ) → slice_index (s j) i < 256

-- the block whose last byte is j, after zeros
unfoldable pub place : ℕ → List ℕ
place j = 0 ∷ 0 ∷ 0 ∷ 0 ∷ 0 ∷ 0 ∷ 0 ∷ 0 ∷ 0 ∷ 0 ∷ 0 ∷ 0 ∷ 0 ∷ 0 ∷ 0 ∷ j ∷ []
