-- What makes each fault of a netstring the first one from left to right: what stands before it is as it has to be.
use Rattle.std.specs.Prelude.{◌≡◌, ◌≢◌, ◌⊎◌, ◌≤◌, ◌<◌, ◌^◌, ℕ, List, [], ◌∷◌, ◌++◌, length, slice_index, true, false}
use Rattle.std.specs.Char.{is_ascii_digit}
use Rattle.std.specs.Str.Parse.{AllDigits, digits_value}
use Rattle.tag_hash.specs.Decimal.{decimal_text}
use Rattle.tag_hash.specs.declared.netstrings.NetFault.{NetFault}
use Rattle.tag_hash.specs.declared.netstrings.NetFault.TheVariants.{NotDigits, LeadingZero, Short, NoComma, TooLong}

-- no digit stands first
abbrev pub NoDigit : List ℕ → Type 0
NoDigit [] = Unit {0}
NoDigit (c ∷ rest) = is_ascii_digit c ≡ false

-- a text begins with these digits, after which no more follow
pub record BeginsWith (text digits rest : List ℕ) : Type 0 where
  pub text_is : text ≡ digits ++ rest
  pub digits_are : AllDigits 10 digits
  pub ends : NoDigit rest

-- no colon stands first, or no more than so many bytes after it
abbrev pub IsCut : ℕ → List ℕ → Type 0
IsCut size rest = (body : List ℕ) → rest ≡ 58 ∷ body → length body ≤ size

-- this fault is the first one of a text
abbrev pub IsFirst : List ℕ → NetFault → Type 0
IsFirst text NotDigits = (text ≢ []) × NoDigit text
IsFirst text LeadingZero = (c : ℕ) × (rest : List ℕ) × (text ≡ 48 ∷ c ∷ rest) × (is_ascii_digit c ≡ true)
IsFirst text Short = (text ≡ [])
    ⊎ ((size : ℕ) × (rest : List ℕ) × BeginsWith text (decimal_text size) rest × (size < 2 ^ 64) × IsCut size rest)
IsFirst text NoComma = (bytes : List ℕ) × (c : ℕ) × (rest : List ℕ) × (length bytes < 2 ^ 64)
    × (text ≡ decimal_text (length bytes) ++ 58 ∷ (bytes ++ c ∷ rest)) × (c ≢ 44)
IsFirst text TooLong = (digits : List ℕ) × (rest : List ℕ) × BeginsWith text digits rest × (slice_index digits 0 ≢ 48)
    × (2 ^ 64 ≤ digits_value 10 digits)
