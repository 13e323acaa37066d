use Rattle.std.proofs.Common.{length, vec_len, ◌∙◌, ap, sym, subst, Err}
use Rattle.grid.specs.ImageReading.{image_said}
use Rattle.gate_core.specs.ConnectionState.{State}
use Rattle.gate_core.proofs.Arrivals.{inner_fault, fault_told}
use Rattle.gate_core.proofs.Isolating.{isolates_first}
use Rattle.grid.specs.GridState.{GridState, states, NoneFailed}
use Rattle.grid.specs.Leaves.{TakesRoom}
use Rattle.gate_core.proofs.gateway.Gateway.restore.Goals as goal

pub returns-in-Err-clause-bad_image : goal.returns-in-Err-clause-bad_image
returns-in-Err-clause-bad_image g c place e =
    fault_told _ (λ bytes. (image_said (vec_len c.args.stores) bytes).fault) place _ (c.in-Err.ensures.bad_image place (inner_fault c.in-Err.fault _ e))

pub returns-in-Ok-over-clause-came : goal.returns-in-Ok-over-clause-came
returns-in-Ok-over-clause-came g c w stand honest =
    let is = c.in-Ok-over.ensures in
    c.came_begins.ensures w c.in-Ok-over.gateway (ap (λ (s : State). s.connections) is)
    (ap (λ (s : State). length s.grid.stores) is ∙ sym (ap (λ (s : State). s.settings.servers) is)) stand honest

pub returns-in-Ok-over-clause-isolated : goal.returns-in-Ok-over-clause-isolated
returns-in-Ok-over-clause-isolated g c = isolates_first c.in-Ok-over.gateway (ap (λ (s : State). s.connections) c.in-Ok-over.ensures)

pub returns-in-Err-clause-full : goal.returns-in-Err-clause-full
returns-in-Err-clause-full g c server e =
    let refused = c.in-Err.ensures in
    record {
      after = states g.S.Store.shares g.S.Store.room g.S.Store.held g.S.Store.failures g.S.Store.honest g.S.Store.history c.in-Err.field-0-1.items;
      leaves = refused.leaves;
      rooms = refused.rooms;
      full = refused.full server (inner_fault c.in-Err.fault _ e);
    }

pub returns-in-Err-clause-down : goal.returns-in-Err-clause-down
returns-in-Err-clause-down g c server e =
    let refused = c.in-Err.ensures in
    record {
      after = states g.S.Store.shares g.S.Store.room g.S.Store.held g.S.Store.failures g.S.Store.honest g.S.Store.history c.in-Err.field-0-1.items;
      leaves = refused.leaves;
      rose = (refused.down server).0 (ap Err (inner_fault c.in-Err.fault _ e));
    }

pub returns-in-Ok-over-clause-none_failed : goal.returns-in-Ok-over-clause-none_failed
returns-in-Ok-over-clause-none_failed g c =
    subst (λ (x : GridState). NoneFailed (states g.S.Store.shares g.S.Store.room g.S.Store.held g.S.Store.failures g.S.Store.honest g.S.Store.history c.args.stores.items) x)
    (sym (ap (λ (s : State). s.grid) c.in-Ok-over.ensures)) c.in-Ok-read_image.ensures.none_failed

pub returns-in-Ok-over-clause-rooms : goal.returns-in-Ok-over-clause-rooms
returns-in-Ok-over-clause-rooms g c all =
    subst (λ (x : GridState). TakesRoom (states g.S.Store.shares g.S.Store.room g.S.Store.held g.S.Store.failures g.S.Store.honest g.S.Store.history c.args.stores.items) x)
    (sym (ap (λ (s : State). s.grid) c.in-Ok-over.ensures)) (c.in-Ok-read_image.ensures.rooms all)
