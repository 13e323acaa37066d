-- What callers are told after a call, from what it leaves.
use Rattle.std.proofs.Common.{◌≡◌, ℕ, List, [], ◌∷◌, ◌++◌, ap, ◌∙◌}
use Rattle.std.specs.Ordering.{nat_cmp}
use Rattle.std.specs.FinMap as map
use Rattle.gate_core.specs.Events.{Event}
use Rattle.gate_core.specs.Items.{items}
use Rattle.gate_core.specs.ConnectionState.{State, waiting, waiting_in}
use Rattle.gate_core.specs.Came.{Opening, Came, GoesOn, Stays}
use Rattle.gate_core.specs.Isolated.{Isolates, IsolatesFirst, IsolatesAfter, IsolatesStill}

nothing_waits : (g : State) (caller : ℕ) → g.connections ≡ map.empty → waiting g caller ≡ []
nothing_waits g caller none = ap (λ m. waiting_in (map.get m caller)) none ∙ ap waiting_in (map.get-empty nat_cmp caller)

-- where there is no connection, nothing was called
pub isolates_first : (g : State) → g.connections ≡ map.empty → IsolatesFirst g
unfolding items
isolates_first g none opening = record {
  apart = λ past caller left apart. nothing_waits g caller none;
  verified = λ caller. nothing_waits g caller none;
}

module _ (isolated : (opening : Opening) (g : State) (events : List Event) → Came opening g events → Isolates opening g events) where
  pub isolates_after : (old new : State) (e : Event) → GoesOn old new e → IsolatesAfter old new e
  isolates_after old new e on opening events came = isolated opening new (events ++ e ∷ []) (on opening events came)

  pub isolates_still : (old new : State) → Stays old new → IsolatesStill old new
  isolates_still old new stays opening events came = isolated opening new events (stays opening events came)
