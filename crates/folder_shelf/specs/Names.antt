-- The names of files.
use Rattle.std.specs.Prelude.{◌≡◌, ℕ, ◌<◌, ◌^◌, List, ◌∷◌, ◌++◌, length, decimal, All}
use Rattle.base32_text.specs.Base32.{spelling}

-- the name of a share's file: its storage index in base32, a full stop, its number in decimal
unfoldable pub file_name : List ℕ → ℕ → List ℕ
file_name index number = spelling index ++ 46 ∷ decimal number

-- a storage index of 16 bytes, and a number of 16 bits
pub record IsKeyInRange (index : List ℕ) (number : ℕ) : Type 0 where
  pub long : length index ≡ 16
  pub octets : All (λ byte. byte < 256) index
  pub small : number < 2 ^ 16
