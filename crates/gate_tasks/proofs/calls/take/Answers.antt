use Rattle.std.proofs.Common.{sym, subst, ◌∙◌}
use Rattle.gate_core.specs.Events.{Take}
use Rattle.gate_core.specs.Came.{GoesOn}
use Rattle.gate_tasks.proofs.CallLemmas.{take_called}
use Rattle.gate_tasks.proofs.calls.take.Goals as goal

pub returns-in-Ok : goal.returns-in-Ok
returns-in-Ok c =
    let old = c.args.gateway.now in
    let is = c.from_vec.ensures in
    take_called c.kept_answers_are_verified.ensures.kept old c.take.new.self c.args.id c.args.most c.from_vec.result _ _ (λ e h. cc) c.in-Ok.ensures.answer (is ∙ c.in-Ok.ensures.given) c.in-Ok.ensures.left
    (subst (λ given. GoesOn old c.take.new.self (Take c.args.id given)) (sym is) c.in-Ok.ensures.came)
