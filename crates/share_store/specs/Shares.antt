-- What stands in a store: a finite map from storage index and number to bytes.
use Rattle.std.specs.Prelude.{ℕ, List, length, sum_by}
use Rattle.std.specs.Ordering.{nat_cmp, ordering_then}
use Rattle.std.specs.declared.cmp.Ordering.{Ordering}
use Rattle.std.specs.Cmp.Lexicographic.{slice_cmp}
use Rattle.std.specs.FinMap.{FinMap, entries}

-- a storage index, and a number
abbrev pub ShareKey : Type 0
ShareKey = List ℕ × ℕ

-- by the index, and then by the number
abbrev pub key_cmp : ShareKey → ShareKey → Ordering
key_cmp a b = ordering_then (slice_cmp nat_cmp a.0 b.0) (nat_cmp a.1 b.1)

abbrev pub Shares : Type 0
Shares = FinMap key_cmp (List ℕ)

-- a key and its bytes
abbrev pub ShareEntry : Type 0
ShareEntry = ShareKey × List ℕ

-- how many bytes these shares have together
abbrev pub bytes_in : List ShareEntry → ℕ
bytes_in es = sum_by (λ e. length e.1) es

abbrev pub bytes_of : Shares → ℕ
bytes_of shares = bytes_in (entries shares)
