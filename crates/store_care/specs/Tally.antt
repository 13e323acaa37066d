-- What was counted in a repair.
use Rattle.std.specs.Prelude.{◌≡◌}
use Rattle.store_care.specs.declared.repair_tally.Tally.{Tally}

-- each file that was looked at is whole
abbrev pub IsAllWell : Tally → Type 0
IsAllWell tally = (tally.lost ≡ 0) × (tally.unfinished ≡ 0)
