-- When a peer's time is over.
use Rattle.std.specs.Prelude.{◌≡◌, ℕ, zero, suc, ◌+◌, ◌*◌, ◌-◌, ◌/◌, ◌^◌, ◌<◌, min, max, ◌⊎◌, Bool, true, false, not, ◌&&◌, ◌||◌, nat_le, if◌then◌else◌}
use Rattle.std.specs.Duration.{as_nanos}
use Rattle.std.specs.Time.{instant_nanos}
use Rattle.std.specs.declared.time.Instant.{Instant}
use Rattle.std.specs.declared.time.Duration.{Duration}
use Rattle.gate_limits.specs.declared.limits.Limits.{Limits}
use Rattle.gate_limits.specs.declared.pace.Pace.{Pace}
use Rattle.gate_limits.specs.declared.pace.Way.{Way}
use Rattle.gate_limits.specs.declared.pace.Way.TheVariants.{Sends, Takes}

-- how long a peer may take besides the time of its bytes, in nanoseconds: a sender whose count didn't begin anew has less
abbrev pub slack : Way → Bool → Limits → ℕ
slack Sends false limits = as_nanos limits.grace
slack Sends true limits = as_nanos limits.idle
slack Takes again limits = as_nanos limits.idle

-- No byte was moved for too long; or its bytes count, and it took longer than that and the time that they take, in whole
-- seconds, at the rate that is expected of it, which is one byte a second at least.
pub record IsLate (pace : Pace) (limits : Limits) (now : Instant) : Type 0 where
  pub why : (as_nanos limits.idle < instant_nanos now - instant_nanos pace.last) ⊎ ((pace.counts ≡ true) × (slack pace.way pace.again limits + pace.moved / max limits.rate 1 * 1_000_000_000 < instant_nanos now - instant_nanos pace.began))

-- so long has passed since it last turned
abbrev pub IsPast : Pace → Instant → Duration → Type 0
IsPast pace now time = as_nanos time < instant_nanos now - instant_nanos pace.began

-- its bytes have counted for as long as a peer may be silent
abbrev pub has_lasted : Limits → Instant → Pace → Bool
has_lasted limits now pace = nat_le (as_nanos limits.idle) (instant_nanos now - instant_nanos pace.began)

abbrev pub is_sender : Way → Bool
is_sender Sends = true
is_sender Takes = false

-- the count begins with the bytes that come now: with the first ones of a sender, and with the first ones after it lasted
abbrev pub begins_now : Limits → Instant → Pace → Bool
begins_now limits now pace = is_sender pace.way && (not pace.counts || has_lasted limits now pace)

-- with its count begun at a time
abbrev pub begun_at : Instant → Pace → Pace
begun_at now pace = record pace { counts = true; began = now; moved = 0; again = pace.counts }

-- with so many bytes more, where they count
abbrev pub with_moved : Instant → ℕ → Pace → Pace
with_moved now count pace = record pace { last = now; moved = if pace.counts then min (pace.moved + count) (2 ^ 64 - 1) else pace.moved }

-- after so many bytes were moved
abbrev pub moved_by : Limits → Instant → ℕ → Pace → Pace
moved_by limits now zero pace = pace
moved_by limits now (suc n) pace = with_moved now (suc n) (if begins_now limits now pace then begun_at now pace else pace)

-- after a write blocked: the count of a taker begins, and anew once it lasted
abbrev pub blocked_at : Limits → Instant → Pace → Pace
blocked_at limits now pace = if pace.counts && not (has_lasted limits now pace) then pace else begun_at now pace

-- of a peer that turns to sending or taking: no byte of it counts yet
abbrev pub turned_at : Way → Instant → Pace
turned_at way now = record { way = way; counts = false; again = false; began = now; last = now; moved = 0 }
