use Rattle.std.proofs.Common.{IfOk, List, Option, subst}
use Rattle.clap.specs.Words.{Row, Text}
use Rattle.server_options.specs.Asked.{IsTaskGiven}
use Rattle.server_options.proofs.options.read_by.Goals as goal

pub returns : goal.returns
returns c = λ simple.
    subst (λ (given : Option (Text × List Row)). IfOk c.read_task.result (IsTaskGiven given)) (c.in_ok-matches.ensures.matches simple).1 c.read_task.ensures
