-- At several acceptors each has its turn.
use Rattle.std.proofs.Common.{◌≢◌, ℕ, ◌+◌, ◌-◌, ◌≤◌, ◌<◌, List, length, Option, subst, arith, inl, inr}
use Rattle.std.specs.Prelude.{Bool, nat_le, if◌then◌else◌, IsSomeAnd}
use Rattle.std.specs.declared.time.Instant.{Instant}
use Rattle.std.proofs.lemmas.Bool.{cases_lt}
use Rattle.std.proofs.lemmas.Option.{slice_get_past}
use Rattle.gate_turns.specs.declared.acceptor.Acceptor.{Acceptor}
use Rattle.gate_turns.specs.Acceptor.{MayAccept}
use Rattle.gate_turns.specs.Acceptors.{MayAcceptAt}

-- there is an acceptor where one may be accepted
pub may_within : (acceptors : List Acceptor) (place : ℕ) (now : Instant) (room : Bool) → MayAcceptAt acceptors place now room → place < length acceptors
may_within acceptors place now room may = elim (cases_lt place (length acceptors)) [
  | inl less ↦ less
  | inr past ↦ absurd (subst (λ (o : Option Acceptor). IsSomeAnd o (λ acceptor. MayAccept acceptor now room)) (slice_get_past acceptors place past) may)
]

-- once one had its turn, each other that stood behind it is nearer to its own
pub nearer : (count first place other : ℕ) → first ≤ count → place < count → other < count → other ≢ place
    → (if nat_le first place then place - first else place + count - first) ≤ (if nat_le first other then other - first else other + count - first)
    → (if nat_le (place + 1) other then other - (place + 1) else other + count - (place + 1)) < (if nat_le first other then other - first else other + count - first)
nearer count first place other bounded within inside another least = grind (arith, bounded, within, inside, another, least)
