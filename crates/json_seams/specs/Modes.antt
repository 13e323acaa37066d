-- How the mode of the kit's lexer goes on over bytes.
use Rattle.std.specs.Prelude.{◌≡◌, ℕ, List, Bool, true, false, cond, ◌==◌, refl}
use Rattle.std.specs.List.{fold}
use Rattle.std.specs.Coded.{Coded, code_by, coded_ℕ}
use Rattle.json.specs.Lex.{Mode, between, in_word, in_string, in_escape, Class, quote, backslash, operator, space, other, class}

-- the mode behind a byte of that class
abbrev pub next_mode : Mode → Class → Mode
next_mode between quote = in_string
next_mode between backslash = in_word
next_mode between operator = between
next_mode between space = between
next_mode between other = in_word
next_mode in_word quote = in_word
next_mode in_word backslash = in_word
next_mode in_word operator = between
next_mode in_word space = between
next_mode in_word other = in_word
next_mode in_string quote = between
next_mode in_string backslash = in_escape
next_mode in_string operator = in_string
next_mode in_string space = in_string
next_mode in_string other = in_string
next_mode in_escape c = in_string

-- the mode behind bytes
abbrev pub mode_after : Mode → List ℕ → Mode
mode_after mode bytes = fold (λ now byte. next_mode now (class byte)) mode bytes

-- in this mode no string is open
abbrev pub is_outside : Mode → Bool
is_outside between = true
is_outside in_word = true
is_outside in_string = false
is_outside in_escape = false

-- ---- how the logic stores a mode

abbrev mode_to_number : Mode → ℕ
mode_to_number between = 0
mode_to_number in_word = 1
mode_to_number in_string = 2
mode_to_number in_escape = 3

abbrev mode_from_number : ℕ → Mode
mode_from_number n = cond (n == 0) between (cond (n == 1) in_word (cond (n == 2) in_string in_escape))

pub mode_from_number-mode_to_number : (m : Mode) → mode_from_number (mode_to_number m) ≡ m
mode_from_number-mode_to_number between = refl
mode_from_number-mode_to_number in_word = refl
mode_from_number-mode_to_number in_string = refl
mode_from_number-mode_to_number in_escape = refl

abbrev pub mode_code : Coded Mode
mode_code = code_by ℕ coded_ℕ mode_to_number mode_from_number mode_from_number-mode_to_number
