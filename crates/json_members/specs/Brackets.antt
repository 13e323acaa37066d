-- How many brackets are open behind bytes.
use Rattle.std.specs.Prelude.{ℕ, suc, ◌-◌, List, [], ◌∷◌, cond, ◌==◌}
use Rattle.json.specs.Ascii as ascii
use Rattle.json.specs.Lex.{Mode, class}
use Rattle.json_seams.specs.Modes.{next_mode, is_outside}

-- how many are open behind a byte that stands in no string; a bracket that closes where none is open leaves none
abbrev pub depth_behind : ℕ → ℕ → ℕ
depth_behind depth byte =
    cond (byte == ascii.open_brace) (suc depth)
    (cond (byte == ascii.close_brace) (depth - 1) (cond (byte == ascii.open_bracket) (suc depth) (cond (byte == ascii.close_bracket) (depth - 1) depth)))

-- and behind a byte before which the lexer stands in that mode: in a string no bracket counts
abbrev pub next_depth : Mode → ℕ → ℕ → ℕ
next_depth mode depth byte = cond (is_outside mode) (depth_behind depth byte) depth

-- how many are open behind bytes, where so many are open before them
unfoldable pub bracket_depth : Mode → ℕ → List ℕ → ℕ
bracket_depth mode depth [] = depth
bracket_depth mode depth (byte ∷ bytes) = bracket_depth (next_mode mode (class byte)) (next_depth mode depth byte) bytes
