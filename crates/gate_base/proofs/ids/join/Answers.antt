use Rattle.std.proofs.Common.{sym, None, ◌∙◌}
use Rattle.gate_base.proofs.Turns.{turned, dropped_same, same_bool}
use Rattle.gate_base.proofs.ids.join.Goals as goal

pub returns-then-holds-before : goal.returns-then-holds-before
returns-then-holds-before c x =
    dropped_same _ _ c.args.id c.in-Some.field-0.now (turned _ _ c.args.id None c.remove.ensures.updates.1 c.remove.ensures.updates.2) (sym c.in-Some.ensures.value) (same_bool _ _ c.if-holds-before.true ∙ c.is_before-before.ensures) x
