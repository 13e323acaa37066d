use Rattle.std.proofs.Common.{Option, IfSome, Contains, subst}
use Rattle.chk_file.specs.Seen.{step_entry}
use Rattle.chk_file.specs.declared.steps.Step.{Step}
use Rattle.chk_file.proofs.LookUps.{put_back}
use Rattle.chk_file.proofs.look_ahead.keep_found.Goals as goal

pub returns-then-is_small : goal.returns-then-is_small
returns-then-is_small g c =
    put_back c.args.cache.now c.step_now.new.cache c.add_step.new.self (step_entry c.in-Ok-Some.step) c.step_now.ensures.within
    (subst (λ (o : Option Step). IfSome o (λ step. Contains c.args.cache.now (step_entry step))) c.in-Ok-Some.field-0-is c.in-Ok-Some.ensures.there) c.add_step.ensures
