-- Which tokens control requests may have to bring.
use Rattle.std.specs.Prelude.{ℕ, Bool, ◌&&◌, nat_le, if◌then◌else◌, List, length, Option, Some, None}
use Rattle.std.specs.List.{list_all}
use Rattle.server_board.specs.Line.{without_line_feed}

-- a visible byte of ASCII: from `!` to `~` (RFC 20)
abbrev pub is_visible : ℕ → Bool
is_visible byte = nat_le 33 byte && nat_le byte 126

abbrev pub is_token : List ℕ → Bool
is_token bytes = nat_le 1 (length bytes) && nat_le (length bytes) 256 && list_all is_visible bytes

-- the token of a file with these bytes, if it has one
abbrev pub token_in : List ℕ → Option (List ℕ)
token_in bytes = if is_token (without_line_feed bytes) then Some (without_line_feed bytes) else None
