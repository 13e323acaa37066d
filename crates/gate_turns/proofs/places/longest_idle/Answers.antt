use Rattle.std.proofs.Common.{◌∙◌}
use Rattle.gate_turns.proofs.Placing.{best_at_end, ended, is_longest, is_nobody}
use Rattle.gate_turns.proofs.places.longest_idle.Goals as goal

pub returns-in-Some-best-clause-some : goal.returns-in-Some-best-clause-some
returns-in-Some-best-clause-some c =
    let none = ended c.next.result _ _ c.next.ensures.steps c.in-None.is in
    is_longest c.args.wanted c.args.seats.now.entries c.in-Some-best.id c.in-Some-best.field-0-1 c.iter-id-items.ensures.ordered
    (best_at_end c.args.wanted c.loop-id.best c.loop-id.id-iterator c.args.seats.now.entries none.0 c.loop-id.invariant ∙ c.in-Some-best.is)

pub returns-in-None-best-clause-none : goal.returns-in-None-best-clause-none
returns-in-None-best-clause-none c =
    let none = ended c.next.result _ _ c.next.ensures.steps c.in-None.is in
    is_nobody c.args.wanted c.args.seats.now.entries
    (best_at_end c.args.wanted c.loop-id.best c.loop-id.id-iterator c.args.seats.now.entries none.0 c.loop-id.invariant ∙ c.in-None-best.is)
