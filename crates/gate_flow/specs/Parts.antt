-- The parts in which a piece is brought.
use Rattle.std.specs.Prelude.{◌≡◌, ◌≤◌, ◌<◌, ◌⊎◌, ◌||◌, ◌==◌, ℕ, suc, Bool, true, false, List, [], ◌∷◌, length, take, if◌then◌else◌}
use Rattle.http_edge.specs.Line.{ends_in_empty_line}

-- LF or CR
abbrev pub is_line_end : ℕ → Bool
is_line_end byte = (byte == 10) || (byte == 13)

-- how many of them stand before all other bytes
abbrev pub line_ends : List ℕ → ℕ
line_ends [] = 0
line_ends (byte ∷ bytes) = if is_line_end byte then suc (line_ends bytes) else 0

-- The first n bytes end with the first blank line, or they are all bytes, where there is none.
pub record IsUpToBlank (bytes : List ℕ) (n : ℕ) : Type 0 where
  pub some : 0 < n
  pub within : n ≤ length bytes
  pub first : (m : ℕ) → m < n → ends_in_empty_line (take m bytes) ≡ false
  pub end : (n ≡ length bytes) ⊎ (ends_in_empty_line (take n bytes) ≡ true)

-- The first n bytes are brought at once: those that belong to a body under way; or else the line ends before all other bytes,
-- where there are such; or else all up to the first blank line.
pub record IsFeedPart (of_body : ℕ) (bytes : List ℕ) (n : ℕ) : Type 0 where
  pub some : 0 < n
  pub within : n ≤ length bytes
  pub body : 0 < of_body → n ≡ of_body
  pub ends : of_body ≡ 0 → 0 < line_ends bytes → n ≡ line_ends bytes
  pub head : of_body ≡ 0 → line_ends bytes ≡ 0 → IsUpToBlank bytes n
