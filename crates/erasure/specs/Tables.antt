-- Products of one element with whole blocks; for private clauses.
use Rattle.std.specs.Prelude.{◌≡◌, ◌*◌, ◌%◌, ◌<◌, ◌≤◌, ℕ, List, slice_index, bit_xor}
use Rattle.gf_field.specs.Field.{mul_of}

-- the products of c with `step` times each number below 16, twice over
abbrev pub AreProducts : ℕ → ℕ → List ℕ → Type 0
AreProducts c step products = (k : ℕ) → k < 32 → slice_index products k ≡ mul_of c (step * (k % 16))

-- the products of c with the values of a byte's low half, and with those of its high half
pub record AreTables (c : ℕ) (low high : List ℕ) : Type 0 where
  pub low_half : AreProducts c 1 low
  pub high_half : AreProducts c 16 high

-- from one place up to another, c times the byte of the source was added
abbrev pub IsAdded : ℕ → List ℕ → List ℕ → List ℕ → ℕ → ℕ → Type 0
IsAdded c source old new from to =
    (i : ℕ) → from ≤ i → i < to → slice_index new i ≡ bit_xor (slice_index old i) (mul_of c (slice_index source i))
