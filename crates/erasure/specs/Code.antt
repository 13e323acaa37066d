-- The k-of-n code. Byte by byte, n blocks are the values of one polynomial, of degree below k, at n points of the field,
-- and the first k blocks are the primary ones.
use Rattle.std.specs.Prelude.{◌≡◌, ◌<◌, ℕ, zero, suc, List, length, map, All, slice_index}
use Rattle.gf_field.specs.Field.{power_of}
use Rattle.erasure.specs.Polynomial.{value_at}

-- the point of block i: 0, 1, 2, 4, 8 and so on by powers of 2
unfoldable pub place_of : ℕ → ℕ
place_of zero = 0
place_of (suc i) = power_of 2 i

-- these are elements of the field
abbrev pub AreBytes : List ℕ → Type 0
AreBytes bytes = All (λ b. b < 256) bytes

-- byte number `at` of each block
abbrev pub column : List (List ℕ) → ℕ → List ℕ
column blocks at = map (λ block. slice_index block at) blocks

-- a polynomial with as many coefficients as there are primary bytes has primary byte j at the point of block j
pub record PassesThrough (coefficients primary : List ℕ) : Type 0 where
  pub as_many : length coefficients ≡ length primary
  pub elements : AreBytes coefficients
  pub at_place : (j : ℕ) → j < length primary → value_at coefficients (place_of j) ≡ slice_index primary j

-- these bytes are the code of the primary bytes: one such polynomial has byte i at the point of block i, for each i
pub record IsCode (primary bytes : List ℕ) : Type 0 where
  pub coefficients : List ℕ
  pub passes : PassesThrough coefficients primary
  pub byte_at : (i : ℕ) → i < length bytes → value_at coefficients (place_of i) ≡ slice_index bytes i

-- these are primary blocks: bytes, each block as long as the others
abbrev pub AreBlocks : ℕ → List (List ℕ) → Type 0
AreBlocks size blocks = All (λ block. (length block ≡ size) × AreBytes block) blocks

-- these are the blocks of the primary ones: byte by byte their code
pub record AreCoded (primary blocks : List (List ℕ)) (size : ℕ) : Type 0 where
  pub sizes : All (λ block. length block ≡ size) blocks
  pub columns : (at : ℕ) → at < size → IsCode (column primary at) (column blocks at)

-- this is block i of the primary ones: byte by byte, the value of that polynomial at its point
pub record IsBlock (primary : List (List ℕ)) (size i : ℕ) (block : List ℕ) : Type 0 where
  pub as_long : length block ≡ size
  pub byte_at : (at : ℕ) → at < size
      → (coefficients : List ℕ) × PassesThrough coefficients (column primary at) × (value_at coefficients (place_of i) ≡ slice_index block at)
