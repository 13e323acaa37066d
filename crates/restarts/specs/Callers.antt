-- Callers over restarts. A caller is one connection of one run: ids begin anew in each run, so an id alone names one caller in
-- each of them.
use Rattle.std.specs.Prelude.{ℕ, zero, suc, ◌+◌, ◌*◌, List, [], ◌∷◌, ◌++◌, map}
use Rattle.chk_file.specs.World.{World}
use Rattle.gate_core.specs.Settings.{GatewaySettings}
use Rattle.gate_core.specs.Events.{Event, handed}
use Rattle.gate_core.specs.Items.{Entry, Asked, Lost, Spoiled, items}
use Rattle.gate_core.specs.Runs.{world_after}
use Rattle.gate_core.specs.ConnectionState.{State, waiting}
use Rattle.restarts.specs.CrashedRuns.{CrashedRun, items_in, unheard}

-- A number for the connection `id` of the run before which there were `run` others. No two of them have the same.
abbrev pub caller_number : ℕ → ℕ → ℕ
caller_number zero id = 2 * id + 1
caller_number (suc run) id = 2 * caller_number run id

-- an item of that run, as its caller's
abbrev pub in_run : ℕ → Entry → Entry
in_run run (Asked id secret item) = Asked (caller_number run id) secret item
in_run run (Lost server key) = Lost server key
in_run run (Spoiled server key place) = Spoiled server key place

-- the items of runs one after the other, as one run: those that a crash ended, and the calls of the last one; before the first
-- of them there were `run` others
abbrev pub items_from : ℕ → List CrashedRun → List Event → List Entry
items_from run [] events = map (in_run run) (items events)
items_from run (life ∷ lives) events = map (in_run run) (items_in life) ++ items_from (suc run) lives events

-- those of all runs
abbrev pub all_items : List CrashedRun → List Event → List Entry
all_items lives events = items_from 0 lives events

-- What a connection of the run with this number was handed, and what it didn't get: at the crash, or what waits for it now
-- where the run is the last one.
abbrev pub told_over : GatewaySettings → ℕ → ℕ → World → List CrashedRun → State → List Event → List ℕ
told_over settings zero id w [] g events = handed id events ++ waiting g id
told_over settings (suc run) id w [] g events = []
told_over settings zero id w (life ∷ lives) g events = handed id life.events ++ unheard settings id w life
told_over settings (suc run) id w (life ∷ lives) g events = told_over settings run id (world_after settings w (items_in life)) lives g events
