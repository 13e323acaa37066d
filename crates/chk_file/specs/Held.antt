-- The bytes that a read cap holds: an upload's while enough of its shares stand untouched.
use Rattle.std.specs.Prelude.{ℕ, List, [], ◌∷◌, length, filter, nat_le, Bool, true, false, if◌then◌else◌, Option, Some, None}
use Rattle.std.specs.Option.{option_map_or}
use Rattle.std.specs.List.{list_any, range_with_len}
use Rattle.caps.specs.Fields.{ReadValue}
use Rattle.caps.specs.StorageIndex.{index_of}
use Rattle.chk_file.specs.Upload.{Upload}
use Rattle.file_shares.specs.Row.{most_servers}
use Rattle.file_shares.specs.Fit.{fit}
use Rattle.chk_file.specs.Marks.{Mark, MarkRow, marks_of, shown_row}
use Rattle.chk_file.specs.World.{World}

-- a mark without toggles
abbrev pub has_none : List ℕ → Bool
has_none [] = true
has_none (place ∷ toggles) = false

abbrev pub is_untouched : Mark → Bool
is_untouched mark = has_none mark.toggles

-- one of a number, at any server
abbrev pub stands_untouched : MarkRow → ℕ → Bool
stands_untouched marks number = list_any (λ server. option_map_or is_untouched (marks server number) false) (range_with_len 0 most_servers)

-- the numbers that have one
abbrev pub untouched_numbers : ℕ → MarkRow → List ℕ
untouched_numbers n marks = filter (stands_untouched marks) (range_with_len 0 n)

-- case 1: the cap of an upload
abbrev pub held_of : Upload → MarkRow → Option (List ℕ)
held_of u marks = if nat_le u.k (length (untouched_numbers u.n marks)) then Some u.bytes else None

-- case 2: another cap
abbrev pub held_in : Option Upload → MarkRow → ReadValue → Option (List ℕ)
held_in None marks f = fit (shown_row marks) f
held_in (Some u) marks f = held_of u marks

abbrev pub uploaded_bytes : World → ReadValue → Option (List ℕ)
uploaded_bytes w f = held_in (w.files f) (marks_of w.marks (index_of f.key)) f
