use Rattle.std.proofs.lemmas.Result.{IfOk-weaker}
use Rattle.json_view.proofs.counting.spell_on.Goals as goal

pub returns-in-None : goal.returns-in-None
returns-in-None c = IfOk-weaker c.step-in-None.result _ _ (λ spelling spelled. spelled (c.new.ensures c.args.metadata.now)) c.step-in-None.ensures.spelled
