-- What is counted of files.
use Rattle.std.specs.Prelude.{◌≡◌, ℕ, ◌+◌, ◌-◌, ◌^◌, min, nat_le, if◌then◌else◌}
use Rattle.store_care.specs.declared.file_tally.FileTally.{FileTally}
use Rattle.store_care.specs.declared.file_tally.Standing.{Standing}
use Rattle.store_care.specs.declared.file_tally.Standing.TheVariants.{Whole, Short, Lost}

-- a file of which so many shares stand is whole where all that are made do, and lost where fewer do than are needed
abbrev pub has_standing : ℕ → ℕ → ℕ → Standing
has_standing shares needed made = if nat_le made shares then Whole else if nat_le needed shares then Short else Lost

-- with one more of a standing
abbrev pub counted_with : Standing → FileTally → FileTally
counted_with Whole tally = record tally { whole = min (tally.whole + 1) (2 ^ 64 - 1) }
counted_with Short tally = record tally { short = min (tally.short + 1) (2 ^ 64 - 1) }
counted_with Lost tally = record tally { lost = min (tally.lost + 1) (2 ^ 64 - 1) }

-- each file that was counted is whole
abbrev pub AreAllWhole : FileTally → Type 0
AreAllWhole tally = (tally.short ≡ 0) × (tally.lost ≡ 0)
