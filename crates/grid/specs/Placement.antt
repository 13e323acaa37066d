-- Where the shares of a file go: from the server that the storage index's last byte names, one server after the other.
use Rattle.std.specs.Prelude.{ℕ, ◌+◌, ◌%◌, ◌&&◌, ◌==◌, nat_lt, List, [], length, Some, slice_get, slice_index, unwrap_or, if◌then◌else◌}
use Rattle.std.specs.Ordering.{eq_by_cmp, nat_cmp}
use Rattle.std.specs.Cmp.Lexicographic.{slice_cmp}
use Rattle.grid.specs.Standing.{Standing}

-- the server of share i
abbrev pub server_of : ℕ → List ℕ → ℕ → ℕ
server_of count index i = (slice_index index 15 + i) % count

-- With shares put: each share stands at its server under its number, where none stood, and all else is as before.
abbrev pub placed : ℕ → List ℕ → List (List ℕ) → Standing → Standing
placed count index shares before s q =
    if eq_by_cmp (slice_cmp nat_cmp) q.0 index && nat_lt q.1 (length shares) && s == server_of count index q.1
    then Some (unwrap_or (before s q) (unwrap_or (slice_get shares q.1) []))
    else before s q
