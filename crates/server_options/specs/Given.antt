-- Which number a command line gives under an option's name.
use Rattle.std.specs.Prelude.{◌≡◌, ◌<◌, ◌^◌, ◌⊎◌, ℕ, List, Option, Some, None}
use Rattle.clap.specs.Words.{Row, one_of}
use Rattle.server_options.specs.Shares.{IsCountOf}

-- a number is the one that a text writes, or another one where the text writes none of so many bits
abbrev pub IsNumberOr : ℕ → List ℕ → ℕ → ℕ → Type 0
IsNumberOr bits text otherwise n = IsCountOf text n ⊎ ((n ≡ otherwise) × ((m : ℕ) → m < 2 ^ bits → ¬ (IsCountOf text m)))

-- a number is the one that the text under a name writes, or else this one
pub record IsNumberGiven (bits : ℕ) (rows : List Row) (name : List ℕ) (otherwise n : ℕ) : Type 0 where
  pub absent : one_of name rows ≡ None → n ≡ otherwise
  pub read : (text : List ℕ) → one_of name rows ≡ Some text → IsNumberOr bits text otherwise n

-- what a text is read as: the number that it writes, or none where it writes none of so many bits
abbrev pub IsWrittenNumber : ℕ → List ℕ → Option ℕ → Type 0
IsWrittenNumber bits text (Some n) = IsCountOf text n
IsWrittenNumber bits text None = (m : ℕ) → m < 2 ^ bits → ¬ (IsCountOf text m)

-- a number is the one that the text under a name writes, and there is none where there is no such text
pub record IsNumberIfGiven (bits : ℕ) (rows : List Row) (name : List ℕ) (read : Option ℕ) : Type 0 where
  pub absent : one_of name rows ≡ None → read ≡ None
  pub present : (text : List ℕ) → one_of name rows ≡ Some text → IsWrittenNumber bits text read
