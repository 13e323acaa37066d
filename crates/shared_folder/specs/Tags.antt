-- Whose an unfinished file is.
use Rattle.std.specs.Prelude.{ℕ, List, ◌∷◌}
use Rattle.hex.specs.Hex.{encode_lower}

-- what stands behind its name: a full stop, and the process's random bytes in hexadecimal with lower-case letters
unfoldable pub tag_text : List ℕ → List ℕ
tag_text random = 46 ∷ encode_lower random
