-- The lines of a script.
use Rattle.std.specs.Prelude.{◌≢◌, All, ℕ, ◌+◌, ◌&&◌, ◌==◌, nat_le, List, [], ◌∷◌, ◌++◌, length, Bool, true, false, if◌then◌else◌}

-- how many bytes a line may have, without the LF that ends it
abbrev pub line_limit : ℕ
line_limit = 16777216

-- how many bytes a script may have
abbrev pub script_limit : ℕ
script_limit = 268435456

-- a line without the LF (10) that ends it, and whether one does
pub record Line : Type 0 where
  pub bytes : List ℕ
  pub ended : Bool

-- no LF stands there
abbrev pub LacksLf : List ℕ → Type 0
LacksLf bytes = All (λ byte. byte ≢ 10) bytes

-- a byte in front of the first line
abbrev pub onto_line : ℕ → List Line → List Line
onto_line byte [] = record { bytes = byte ∷ []; ended = false } ∷ []
onto_line byte (line ∷ more) = record { bytes = byte ∷ line.bytes; ended = line.ended } ∷ more

-- a script's lines: each is ended by an LF, save that the last may lack it
abbrev pub lines_of : List ℕ → List Line
lines_of [] = []
lines_of (byte ∷ script) = if byte == 10 then record { bytes = []; ended = true } ∷ lines_of script else onto_line byte (lines_of script)

-- the bytes of a script that a line takes
abbrev pub line_bytes : Line → List ℕ
line_bytes line = line.bytes ++ (if line.ended then 10 ∷ [] else [])

-- a line of so many bytes is within its limit, and the script, of which so many were read before it, within its own
abbrev pub fits : ℕ → ℕ → Bool → Bool
fits read size ended = nat_le size line_limit && nat_le (read + (size + (if ended then 1 else 0))) script_limit

abbrev pub is_within : ℕ → Line → Bool
is_within read line = fits read (length line.bytes) line.ended
