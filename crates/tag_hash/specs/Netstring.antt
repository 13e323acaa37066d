-- Netstrings: bytes that say how many they are.
use Rattle.std.specs.Prelude.{ℕ, List, [], ◌∷◌, ◌++◌, length}
use Rattle.tag_hash.specs.Decimal.{decimal_text}

-- the number of the bytes in decimal, a colon, the bytes, a comma
unfoldable pub netstring : List ℕ → List ℕ
netstring bytes = decimal_text (length bytes) ++ 58 ∷ (bytes ++ 44 ∷ [])
