use Rattle.std.proofs.Common.{ap, ◌∙◌}
use Rattle.std.specs.FinSet as set
use Rattle.std.proofs.lemmas.Result.{on_ok_weaker, on_err_weaker}
use Rattle.gate_base.proofs.Turns.{same_ids, ids_added}
use Rattle.gate_base.proofs.ids.Ids.insert.Goals as goal

pub returns-clause-ok : goal.returns-clause-ok
returns-clause-ok c = on_ok_weaker c.add.result (λ added. ids_added _ _ c.args.id c.ranges.id.fits added ∙ ap (λ s. set.insert s c.args.id) c.self.view_is) c.add.ensures.ok

pub returns-clause-err : goal.returns-clause-err
returns-clause-err c = on_err_weaker c.add.result (λ same. same_ids _ _ same ∙ c.self.view_is) c.add.ensures.err
