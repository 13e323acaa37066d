-- The keys of shares on a server.
use Rattle.std.specs.Prelude.{ℕ, ◌/◌, ◌%◌, List, [], ◌∷◌, ◌++◌}
use Rattle.hex.specs.Hex.{encode_lower}

-- a storage index and a number in hexadecimal, with lower-case letters, the number's high byte first
unfoldable pub digits : List ℕ → ℕ → List ℕ
digits index number = encode_lower (index ++ number / 256 ∷ number % 256 ∷ [])

-- the key of a share: the grid's id, and behind it those digits
abbrev pub key : List ℕ → List ℕ → ℕ → List ℕ
key grid index number = grid ++ digits index number
