-- Looking a name up.
use Rattle.std.specs.Prelude.{◌≡◌, ℕ, ◌<◌, List, length, bytes_eq, Option, Some, slice_index_or}
use Rattle.std.specs.List.{find}
use Rattle.dir_codec.specs.declared.entry.Entry.{Entry}

-- the entry of that name
unfoldable pub child_named : List ℕ → List Entry → Option Entry
child_named name entries = find (λ entry. bytes_eq entry.name name) entries

-- the entry at that place is the one that is found; for a private clause
abbrev pub IsFoundAt : List ℕ → List Entry → ℕ → Type 0
IsFoundAt name entries place = (place < length entries) × ((d : Entry) → child_named name entries ≡ Some (slice_index_or entries place d))
