use Rattle.std.proofs.Common.{◌≡◌, Result, Ok, Err, IfOk, ap, subst, ◌∙◌}
use Rattle.grid.specs.GridState.{GridState, stood, IsHonest}
use Rattle.chk_file.specs.World.{World, empty}
use Rattle.chk_file.specs.Marks.{shown}
use Rattle.gate_core.specs.ConnectionState.{State}
use Rattle.gate_core.specs.Came.{Starts}
use Rattle.gate_core.specs.declared.fault.GatewayFault.{GatewayFault}
use Rattle.gate_core.proofs.Empty.{nothing_stood}
use Rattle.gate_core.proofs.gateway.Gateway.new.Goals as goal

-- what begins over a grid in which nothing stands begins in the empty world
begins : (r : Result State GatewayFault) (grid : GridState) → (IsHonest grid → stood grid ≡ shown empty.marks)
    → IfOk r (λ g. g.grid ≡ grid) → IfOk r (λ g. (w : World) → stood g.grid ≡ shown w.marks → Starts w g) → IfOk r (Starts empty)
begins (Ok g) grid none same starts = λ honest. starts empty (ap stood same ∙ none (subst IsHonest same honest)) honest
begins (Err e) grid none same starts = tt

held_by : (r : Result State GatewayFault) (s : State) → IfOk r (λ g. g ≡ s) → IfOk r (λ g. g.grid ≡ s.grid)
held_by (Ok g) s same = ap (λ (x : State). x.grid) same
held_by (Err e) s same = tt

pub returns-clause-came : goal.returns-clause-came
returns-clause-came g c =
    begins c.resume.result _
    (nothing_stood g.S.Store.shares g.S.Store.room g.S.Store.held g.S.Store.failures g.S.Store.honest g.S.Store.history g.met.S.Store.held_is g.met.S.Store.none_empty c.args.stores.items c.requires.empty)
    (held_by c.resume.result _ c.resume.ensures.held) c.resume.ensures.came
