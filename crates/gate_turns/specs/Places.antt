-- Who is given up for a newcomer.
use Rattle.std.specs.Prelude.{◌≡◌, ℕ, ◌≤◌, ◌<◌, ◌⊎◌, nat_eq, nat_lt, Bool, true, if◌then◌else◌, List, All, count_by, length, Option, Some, None}
use Rattle.gate_turns.specs.declared.seat.Seat.{Seat}
use Rattle.gate_turns.specs.declared.places.Choice.{Choice}
use Rattle.gate_turns.specs.declared.places.Choice.TheVariants.{Opens, Replaces, Refused}
use Rattle.gate_turns.specs.Seat.{idle_since}
use Rattle.gate_turns.specs.Turns.{seat_in}

-- how many places an address has
abbrev pub places_taken : ℕ → List (ℕ × Seat) → ℕ
places_taken address seats = count_by (λ e. nat_eq e.1.address address) seats

-- it is asked for any address, or for this one
abbrev pub is_of : Option ℕ → ℕ → Bool
is_of None address = true
is_of (Some wanted) address = nat_eq wanted address

-- since when a connection is idle, if it is of the address that is asked for
abbrev pub idle_for : Option ℕ → Seat → Option ℕ
idle_for wanted seat = if is_of wanted seat.address then idle_since seat else None

-- the best one of those before, or this one, where it has been idle longer
abbrev pub longer_idle : Option (ℕ × ℕ) → ℕ → Option ℕ → Option (ℕ × ℕ)
longer_idle best id None = best
longer_idle None id (Some since) = Some (id, since)
longer_idle (Some best) id (Some since) = if nat_lt since best.1 then Some (id, since) else Some best

-- a connection is idle, and no other that is asked for has been for longer
pub record IsLongestIdle (wanted : Option ℕ) (seats : List (ℕ × Seat)) (id : ℕ) : Type 0 where
  pub seat : Seat
  pub there : seat_in seats id ≡ Some seat
  pub since : ℕ
  pub idle : idle_for wanted seat ≡ Some since
  pub longest : All (λ e. (before : ℕ) → idle_for wanted e.1 ≡ Some before → since ≤ before) seats

-- nobody of this address is idle, or nobody at all
abbrev pub NobodyIsIdle : Option ℕ → List (ℕ × Seat) → Type 0
NobodyIsIdle wanted seats = All (λ e. idle_for wanted e.1 ≡ None) seats

-- What becomes of a newcomer whose address may have so many of all places: it has a place of its own exactly where one is
-- free and its address has fewer than it may; it has that of the connection of its own address that has been idle longest
-- where that has as many as it may, else of all; and it is refused exactly where none of these is idle.
abbrev pub IsChoiceFor : ℕ → ℕ → ℕ → List (ℕ × Seat) → Choice → Type 0
IsChoiceFor room most address seats Opens = (length seats < room) × (places_taken address seats < most)
IsChoiceFor room most address seats (Replaces id) =
    ((most ≤ places_taken address seats) × IsLongestIdle (Some address) seats id)
    ⊎ ((places_taken address seats < most) × (room ≤ length seats) × IsLongestIdle None seats id)
IsChoiceFor room most address seats Refused =
    ((most ≤ places_taken address seats) × NobodyIsIdle (Some address) seats)
    ⊎ ((places_taken address seats < most) × (room ≤ length seats) × NobodyIsIdle None seats)
