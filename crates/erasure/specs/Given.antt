-- The blocks that a call is given, and what can be wrong with them.
use Rattle.std.specs.Prelude.{◌≡◌, ◌≢◌, ◌<◌, ℕ, List, [], length, map, All, AllPairs, slice_index, slice_index_or}
use Rattle.std.specs.Borrow.{Bor}
use Rattle.erasure.specs.Blocks.{size_of}

-- the bytes of each block
abbrev pub contents_of : List (Bor (List ℕ)) → List (List ℕ)
contents_of blocks = map (λ block. block.now) blocks

-- the number and the bytes of each block
abbrev pub numbered_of : List (ℕ × Bor (List ℕ)) → List (ℕ × List ℕ)
numbered_of blocks = map (λ block. (block.0, block.1.now)) blocks

abbrev pub numbers_of : List (ℕ × List ℕ) → List ℕ
numbers_of given = map (λ g. g.0) given

abbrev pub blocks_of : List (ℕ × List ℕ) → List (List ℕ)
blocks_of given = map (λ g. g.1) given

-- no number stands twice
abbrev pub AreDistinct : List ℕ → Type 0
AreDistinct numbers = AllPairs (λ x y. x ≢ y) numbers

-- a number stands twice
abbrev pub Repeats : List ℕ → Type 0
Repeats numbers = (i : ℕ) × (j : ℕ) × (i < j) × (j < length numbers) × (slice_index numbers i ≡ slice_index numbers j)

-- each block is as long as the first
abbrev pub HaveOneLength : List (List ℕ) → Type 0
HaveOneLength blocks = All (λ block. length block ≡ size_of blocks) blocks

-- a block is longer or shorter than the first
abbrev pub HasAnotherLength : List (List ℕ) → Type 0
HasAnotherLength blocks = (i : ℕ) × (i < length blocks) × (length (slice_index_or blocks i []) ≢ size_of blocks)

-- these are numbers of blocks, none of them twice
pub record AreNumbers (numbers : List ℕ) : Type 0 where
  pub small : All (λ number. number < 256) numbers
  pub distinct : AreDistinct numbers
