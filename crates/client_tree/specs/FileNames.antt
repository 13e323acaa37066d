-- Names that files can have.
use Rattle.std.specs.Prelude.{◌≡◌, ℕ, Bool, true, ◌&&◌, ◌==◌, not, nat_le, List, length, bytes_eq, codes}
use Rattle.std.specs.List.{list_all}

-- neither NUL nor `/`
abbrev pub is_name_byte : ℕ → Bool
is_name_byte b = not (b == 0) && not (b == 47)

-- some bytes of these, not too many, that lead neither nowhere nor up
abbrev pub is_file_name : List ℕ → Bool
is_file_name name =
    (not (length name == 0) && nat_le (length name) 255)
    && (not (bytes_eq name (codes ".")) && (not (bytes_eq name (codes "..")) && list_all is_name_byte name))

-- each name of a path is one that a file can have
abbrev pub AreFileNames : List (List ℕ) → Type 0
AreFileNames path = list_all is_file_name path ≡ true
