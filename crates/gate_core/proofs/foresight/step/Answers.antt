use Rattle.grid.proofs.Views.{tell_on_both}
use Rattle.gate_core.proofs.Serving.{Leaves-trans}
use Rattle.gate_core.proofs.foresight.step.Goals as goal

pub returns-else-not-may_hold-clause-fresh : goal.returns-else-not-may_hold-clause-fresh
returns-else-not-may_hold-clause-fresh g c fresh = c.prepare_end.ensures.fresh (c.in-At.ensures.fresh fresh)

pub returns-else-not-may_hold-clause-leaves : goal.returns-else-not-may_hold-clause-leaves
returns-else-not-may_hold-clause-leaves g c = Leaves-trans _ _ _ c.in-At.ensures.leaves c.prepare_end.ensures.leaves

pub returns-else-not-may_hold-clause-told : goal.returns-else-not-may_hold-clause-told
returns-else-not-may_hold-clause-told g c = tell_on_both _ _ _ c.in-At.ensures.told c.prepare_end.ensures.told
