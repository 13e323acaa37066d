-- Stamps: how often what stands under each storage index may have changed.
use Rattle.std.specs.Prelude.{ℕ, suc, ◌-◌, ◌^◌, ◌==◌, List, Option, Some, None, unwrap_or, if◌then◌else◌}
use Rattle.std.specs.Coded.{Coded, coded_list, coded_ℕ}
use Rattle.std.specs.Ordering.{nat_cmp}
use Rattle.std.specs.Cmp.Lexicographic.{slice_cmp}
use Rattle.std.specs.FinMap as finite

-- how often the stamp of each storage index was raised, as far as 64 bits count; none is kept of those that never were
abbrev pub Stamps : Type 0
Stamps = finite.FinMap (slice_cmp nat_cmp) ℕ

abbrev pub stamps_code : Coded Stamps
stamps_code = finite.code {R = slice_cmp nat_cmp} (coded_list coded_ℕ) coded_ℕ

abbrev pub never_raised : Stamps
never_raised = finite.empty

abbrev pub count_at : Stamps → List ℕ → ℕ
count_at stamps si = unwrap_or (finite.get stamps si) 0

-- the last number that 64 bits count
abbrev pub last_count : ℕ
last_count = 2 ^ 64 - 1

abbrev pub one_more : ℕ → ℕ
one_more n = if n == last_count then last_count else suc n

-- with the stamp of one storage index raised
abbrev pub raised : List ℕ → Stamps → Stamps
raised si stamps = finite.insert stamps si (one_more (count_at stamps si))

-- the stamp that a count stands for: none where it no longer tells one change from the next
abbrev pub stamp_of : ℕ → Option ℕ
stamp_of n = if n == last_count then None else Some n
