-- The shares of a file that are made again.
use Rattle.std.specs.Prelude.{◌≡◌, ℕ, ◌<◌, List, [], length, map, All, slice_index_or}
use Rattle.share_repair.specs.Files.{FileLabel, Numbered, AreGivenOf, all_shares}

-- a string is the one of this number; for private clauses
abbrev pub IsOne : List (List ℕ) → ℕ → List ℕ → Type 0
IsOne made number bytes = (number < length made) × (slice_index_or made number [] ≡ bytes)

-- each of these is the one of its number; for private clauses
abbrev pub AreAmong : List (List ℕ) → List Numbered → Type 0
AreAmong made given = All (λ (g : Numbered). IsOne made g.0 g.1) given

-- what was given are k shares of a crypttext of that file, and what was made are all of them
pub record AreRepaired (label : FileLabel) (given : List Numbered) (made : List (List ℕ)) : Type 0 where
  pub crypttext : List ℕ
  pub origin : AreGivenOf label crypttext given
  pub all : made ≡ all_shares label.params crypttext

-- the numbers and the bytes of shares
abbrev pub strings_of : {A : Type 0} → (A → List ℕ) → List (ℕ × A) → List Numbered
strings_of bytes given = map (λ g. (g.0, bytes g.1)) given
