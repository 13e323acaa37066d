-- Calls of one of several gateways.
use Rattle.std.proofs.Common.{◌≡◌, ◌≢◌, ℕ, List, [], ◌∷◌, ◌++◌, take, Option, Some, None, refl, sym, ap, subst, ◌∙◌, ⊎_elim}
use Rattle.std.specs.Prelude.{unwrap_or}
use Rattle.std.proofs.lemmas.Bool.{cases_eq}
use Rattle.std.specs.FinMap as map
use Rattle.grid.specs.GridState.{GridState, NoneFailed}
use Rattle.gate_core.specs.declared.stage.Stage.TheVariants.{Open as OpenStage}
use Rattle.gate_core.specs.Settings.{GatewaySettings}
use Rattle.gate_core.specs.Events.{Event, Open, Bytes, End, Take}
use Rattle.gate_core.specs.ConnectionState.{ConnectionState, State, Connections, connection_at}
use Rattle.gate_core.specs.AfterCall.{with_held, with_grid, opened, taken, ended_state}
use Rattle.gate_core.specs.Served.{IsFed, IsReceived}
use Rattle.gate_core.specs.Came.{Opening, Came, IsRoomy}
use Rattle.gate_core.proofs.Maps.{get-insert_here, get-insert_other}
use Rattle.many_gates.specs.Parts.{IsOneOfThem, GoesOnTogether}

-- what one map has the other has too
abbrev pub IsWithin : Connections → Connections → Type 0
IsWithin mine all = (i : ℕ) (k : ConnectionState) → map.get mine i ≡ Some k → map.get all i ≡ Some k

put_there : (mine all : Connections) (id : ℕ) (h : ConnectionState) → IsWithin mine all → IsWithin (map.insert mine id h) (map.insert all id h)
put_there mine all id h within i k has = ⊎_elim
    (λ same. subst (λ j. map.get (map.insert all id h) j ≡ Some k) (sym same)
    (get-insert_here all id h ∙ sym (get-insert_here mine id h) ∙ ap (λ j. map.get (map.insert mine id h) j) (sym same) ∙ has))
    (λ apart. get-insert_other all id i h apart ∙ within i k (sym (get-insert_other mine id i h apart) ∙ has))
    (cases_eq i id)

none_known : (theirs : Connections) (id i : ℕ) (k : ConnectionState) → i ≡ id → map.get theirs id ≡ None → map.get theirs i ≡ Some k → ⊥
none_known theirs id i k same unknown has =
    let clash : (let n : Option ConnectionState = None in n) ≡ Some k = sym unknown ∙ ap (map.get theirs) (sym same) ∙ has in cc

others_there : (theirs all : Connections) (id : ℕ) (h : ConnectionState) → IsWithin theirs all → map.get theirs id ≡ None → IsWithin theirs (map.insert all id h)
others_there theirs all id h within unknown i k has = ⊎_elim
    (λ same. absurd (none_known theirs id i k same unknown has))
    (λ apart. get-insert_other all id i h apart ∙ within i k has)
    (cases_eq i id)

-- a call of which this is held of its connection, and which left this grid
goes_on : (opening : Opening) (all part new : State) (id : ℕ) (h : ConnectionState) (events : List Event) (e : Event) → IsOneOfThem part all → new.settings ≡ part.settings → new.connections ≡ map.insert part.connections id h
    → Came opening (record { settings = all.settings; connections = map.insert all.connections id h; grid = new.grid; tally = all.tally }) (events ++ e ∷ []) → GoesOnTogether opening all new id events e
goes_on opening all part new id h events e is settings connections came = record {
  after = record { settings = all.settings; connections = map.insert all.connections id h; grid = new.grid; tally = all.tally };
  came = came;
  part = record {
    settings = settings ∙ is.settings;
    grid = refl;
    held = λ i k has. put_there part.connections all.connections id h is.held i k (ap (λ m. map.get m i) (sym connections) ∙ has);
  };
  others = λ other theirs unknown. record {
    settings = theirs.settings;
    grid = refl;
    held = others_there other.connections all.connections id h theirs.held unknown;
  };
}

-- ---- bytes

abbrev pub ReceivedLaw : Type 0
ReceivedLaw = (opening : Opening) (g h : State) (events : List Event) (id : ℕ) (held : ConnectionState) (piece : List ℕ) → Came opening g events → connection_at g id ≡ Some held → held.stage ≡ OpenStage → IsReceived g h id held piece
    → IsRoomy g.settings opening (events ++ Bytes id piece ∷ []) → NoneFailed g.grid h.grid → Came opening h (events ++ Bytes id piece ∷ [])

pub together : ReceivedLaw → (opening : Opening) (all part new : State) (events : List Event) (id : ℕ) (held : ConnectionState) (piece : List ℕ) → Came opening all events → IsOneOfThem part all → connection_at part id ≡ Some held
    → held.stage ≡ OpenStage → IsReceived part new id held piece → IsRoomy all.settings opening (events ++ Bytes id piece ∷ []) → NoneFailed part.grid new.grid
    → GoesOnTogether opening all new id events (Bytes id piece)
together law opening all part new events id held piece came is found going r roomy calm =
    let after : State = record { settings = all.settings; connections = map.insert all.connections id r.after; grid = new.grid; tally = all.tally } in
    let fed : IsFed all.settings piece held r.after all.grid new.grid =
    subst (λ (s : GatewaySettings). IsFed s piece held r.after all.grid new.grid) is.settings (subst (λ (g : GridState). IsFed part.settings piece held r.after g new.grid) is.grid r.fed) in
    let received : IsReceived all after id held piece = record { after = r.after; settings = refl; connections = refl; fed = fed } in
    goes_on opening all part new id r.after events (Bytes id piece) is r.settings r.connections
    (law opening all after events id held piece came (is.held id held found) going received roomy (subst (λ (g : GridState). NoneFailed g new.grid) is.grid calm))

-- ---- calls that leave the grid

-- with this held of the connection, over the grid of all
same_grid : (opening : Opening) (all part : State) (id : ℕ) (h : ConnectionState) (events : List Event) → IsOneOfThem part all → Came opening (with_held all id h) events
    → Came opening (record { settings = all.settings; connections = map.insert all.connections id h; grid = part.grid; tally = all.tally }) events
same_grid opening all part id h events is came =
    subst (λ (g : GridState). Came opening (record { settings = all.settings; connections = map.insert all.connections id h; grid = g; tally = all.tally }) events) (sym is.grid) came

pub quiet : (opening : Opening) (all part : State) (id : ℕ) (h : ConnectionState) (events : List Event) (e : Event) → IsOneOfThem part all → Came opening (with_held all id h) (events ++ e ∷ [])
    → GoesOnTogether opening all (with_held part id h) id events e
quiet opening all part id h events e is came = goes_on opening all part (with_held part id h) id h events e is refl refl (same_grid opening all part id h (events ++ e ∷ []) is came)
