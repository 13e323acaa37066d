-- When a stop is over.
use Rattle.std.specs.Prelude.{◌≡◌, ℕ, ◌-◌, ◌≤◌, ◌⊎◌, Some}
use Rattle.std.specs.Duration.{as_nanos}
use Rattle.std.specs.Time.{instant_nanos}
use Rattle.std.specs.declared.time.Instant.{Instant}
use Rattle.std.specs.declared.time.Duration.{Duration}
use Rattle.gate_turns.specs.declared.ending.Ending.{Ending}

-- A stop was asked for, and no connection is open, or what is owed had its time since the first that asked.
pub record IsStopOver (ending : Ending) (count : ℕ) (now : Instant) (time : Duration) : Type 0 where
  pub since : Instant
  pub asked : ending.since ≡ Some since
  pub why : (count ≡ 0) ⊎ (as_nanos time ≤ instant_nanos now - instant_nanos since)
