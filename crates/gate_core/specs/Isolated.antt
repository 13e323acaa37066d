-- What callers are told where the requests of others are dropped.
use Rattle.std.specs.Prelude.{◌≡◌, ℕ, List, [], ◌∷◌, ◌++◌}
use Rattle.chk_file.specs.Look.{by_fit}
use Rattle.gate_core.specs.Events.{Event, handed}
use Rattle.gate_core.specs.Items.{Entry, items}
use Rattle.gate_core.specs.Runs.{said_by, said}
use Rattle.gate_core.specs.Reach.{only_caller, kept_by, kept}
use Rattle.gate_core.specs.Uploaded.{IsLeftBy}
use Rattle.gate_core.specs.Apart.{Apart}
use Rattle.gate_core.specs.ConnectionState.{State, waiting}
use Rattle.gate_core.specs.Came.{Opening, Came}

-- What a caller was handed in these calls, and then what waits for it, is what the written answers say when the items of
-- others are dropped, save uploads under a storage index that it met: where a run left what stood at first, and no two
-- strings collide that are hashed in this caller's part.
abbrev pub IsIsolated : Opening → State → List Event → Type 0
IsIsolated opening g events = (past : List Entry) (caller : ℕ) → IsLeftBy g.settings past opening.world → Apart g.settings (only_caller caller) past opening.world (items events)
    → handed caller events ++ waiting g caller ≡ said g.settings caller opening.world (kept g.settings (only_caller caller) opening.world (items events))

-- the same where caps give what verification finds: no hash needs to be free of collisions
abbrev pub IsVerified : Opening → State → List Event → Type 0
IsVerified opening g events = (caller : ℕ)
    → handed caller events ++ waiting g caller ≡ said_by by_fit g.settings caller opening.world (kept_by by_fit g.settings (only_caller caller) opening.world (items events))

-- both
pub record Isolates (opening : Opening) (g : State) (events : List Event) : Type 0 where
  pub apart : IsIsolated opening g events
  pub verified : IsVerified opening g events

-- before any call, whatever stood at first
abbrev pub IsolatesFirst : State → Type 0
IsolatesFirst g = (opening : Opening) → Isolates opening g []

-- of all calls that led to the old one, and then this call
abbrev pub IsolatesAfter : State → State → Event → Type 0
IsolatesAfter old new e = (opening : Opening) (events : List Event) → Came opening old events → Isolates opening new (events ++ e ∷ [])

-- of all calls that led to the old one
abbrev pub IsolatesStill : State → State → Type 0
IsolatesStill old new = (opening : Opening) (events : List Event) → Came opening old events → Isolates opening new events
