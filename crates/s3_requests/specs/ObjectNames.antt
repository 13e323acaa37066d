-- The names of objects in a bucket.
use Rattle.std.specs.Prelude.{◌≡◌, ◌<◌, ℕ, length, All, ◌/◌, ◌%◌, List, [], ◌∷◌, ◌++◌, codes, Option, Some, None}
use Rattle.hex.specs.Hex.{encode_lower}

-- what each name begins with: the prefix and a slash, where there is one
abbrev pub name_beginning : Option (List ℕ) → List ℕ
name_beginning None = []
name_beginning (Some prefix) = prefix ++ codes "/"

-- a storage index and a number in hexadecimal, with lower-case letters, the number's high byte first
unfoldable pub name_digits : List ℕ → ℕ → List ℕ
name_digits index number = encode_lower (index ++ number / 256 ∷ number % 256 ∷ [])

-- sixteen bytes, and a number of two
pub record IsIndexAndNumber (index : List ℕ) (number : ℕ) : Type 0 where
  pub long : length index ≡ 16
  pub octets : All (λ byte. byte < 256) index
  pub small : number < 65536

-- the name of a share
abbrev pub object_name : Option (List ℕ) → List ℕ → ℕ → List ℕ
object_name prefix index number = name_beginning prefix ++ name_digits index number

-- the name of the settings
abbrev pub settings_name : Option (List ℕ) → List ℕ
settings_name prefix = name_beginning prefix ++ codes "grid"
