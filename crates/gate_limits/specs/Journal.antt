-- Which lines are told.
use Rattle.std.specs.Prelude.{◌+◌, ◌-◌, ◌^◌, ◌<◌, ◌≤◌, ◌⊎◌, min, Bool, true, false, if◌then◌else◌, nat_le}
use Rattle.std.specs.Time.{instant_nanos}
use Rattle.std.specs.declared.time.Instant.{Instant}
use Rattle.gate_limits.specs.declared.journal.Journal.{Journal}

-- a second is over since this time
abbrev pub IsSecondOver : Instant → Instant → Type 0
IsSecondOver began now = 1_000_000_000 ≤ instant_nanos now - instant_nanos began

-- a line is told: the second has lines left, or another one begins
abbrev pub IsAdmitted : Journal → Instant → Type 0
IsAdmitted j now = IsSecondOver j.began now ⊎ (0 < j.left)

-- what is known of the lines of this second, after one that was told or left out
abbrev pub second_of : Journal → Instant → Journal
second_of j now = if nat_le 1_000_000_000 (instant_nanos now - instant_nanos j.began) then record j { began = now; left = 20 } else j

abbrev pub after_line : Bool → Journal → Instant → Journal
after_line true j now = record (second_of j now) { left = (second_of j now).left - 1 }
after_line false j now = record j { omitted = min (j.omitted + 1) (2 ^ 64 - 1) }
