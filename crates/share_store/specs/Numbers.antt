-- The numbers that stand under a storage index.
use Rattle.std.specs.Prelude.{ℕ, List, map, filter, nat_eq}
use Rattle.std.specs.Cmp.Lexicographic.{pointwise}
use Rattle.std.specs.FinMap.{entries}
use Rattle.share_store.specs.Shares.{Shares, ShareEntry}

-- the entries of one storage index, in the order of their numbers
abbrev pub of_index : List ℕ → List ShareEntry → List ShareEntry
of_index index es = filter (λ e. pointwise nat_eq e.0.0 index) es

-- the numbers that stand there, rising
abbrev pub numbers_for : Shares → List ℕ → List ℕ
numbers_for shares index = map (λ e. e.0.1) (of_index index (entries shares))
