-- The bytes of a command (RESP2).
use Rattle.std.specs.Prelude.{ℕ, List, [], ◌∷◌, ◌++◌, length, decimal}
use Rattle.std.specs.List.{flat_map}

-- CR and LF
abbrev pub line_end : List ℕ
line_end = 13 ∷ 10 ∷ []

-- a line: its mark, what it says, and its end
abbrev pub line : ℕ → List ℕ → List ℕ
line mark text = mark ∷ text ++ line_end

-- a bulk string: a line `$` with its length in decimal, its bytes, and CR and LF
abbrev pub bulk : List ℕ → List ℕ
bulk content = line 36 (decimal (length content)) ++ content ++ line_end

-- a command: a line `*` with how many words it has in decimal, and each word as a bulk string
unfoldable pub command : List (List ℕ) → List ℕ
command words = line 42 (decimal (length words)) ++ flat_map bulk words
