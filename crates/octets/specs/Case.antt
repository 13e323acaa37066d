-- Texts in which the case of letters doesn't count.
use Rattle.std.specs.Prelude.{ℕ, Bool, List, map, bytes_eq}
use Rattle.std.specs.Char.{to_ascii_lowercase}

-- equal but for the case of ASCII letters
abbrev pub eq_ignore_case : List ℕ → List ℕ → Bool
eq_ignore_case a b = bytes_eq (map to_ascii_lowercase a) (map to_ascii_lowercase b)
