-- Which names a commit may have.
use Rattle.std.specs.Prelude.{ℕ, Bool, ◌&&◌, nat_le, if◌then◌else◌, List, length, Option, Some, None}
use Rattle.std.specs.Char.{is_ascii_hexdigit}
use Rattle.std.specs.List.{list_all}
use Rattle.server_board.specs.Line.{without_line_feed}

-- a commit's name: 7 to 64 hexadecimal digits
abbrev pub is_commit : List ℕ → Bool
is_commit name = nat_le 7 (length name) && nat_le (length name) 64 && list_all is_ascii_hexdigit name

-- the commit that a file with these bytes names, if it names one
abbrev pub commit_in : List ℕ → Option (List ℕ)
commit_in bytes = if is_commit (without_line_feed bytes) then Some (without_line_feed bytes) else None
