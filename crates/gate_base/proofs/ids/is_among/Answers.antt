use Rattle.std.proofs.Common.{sym}
use Rattle.std.proofs.lemmas.Map.Keys.{le_from_not_gt}
use Rattle.gate_base.proofs.Turns.{turned_last, never_turned, none_over, up_to}
use Rattle.gate_base.proofs.ids.is_among.Goals as goal

pub returns-in-Some : goal.returns-in-Some
returns-in-Some c =
    let found = (c.range.ensures.in_range tt).3 (c.in-Some.field-0-0.now, c.in-Some.holds.now) c.next_back.new.self c.in-Some.ensures.steps in
    let greatest = (c.range.ensures.in_range tt).4 (c.in-Some.field-0-0.now, c.in-Some.holds.now) c.next_back.new.self c.in-Some.ensures.steps in
    sym (turned_last _ c.in-Some.field-0-0.now c.args.id c.in-Some.holds.now (le_from_not_gt _ _ found.0.1) found.1
    (λ q above below. none_over _ c.in-Some.field-0-0.now q above (greatest q (tt, up_to q c.args.id below))))

pub returns-in-None : goal.returns-in-None
returns-in-None c = sym (never_turned _ c.args.id (λ q below. (c.range.ensures.in_range tt).5 c.in-None.ensures.steps.0 q (tt, up_to q c.args.id below)))
