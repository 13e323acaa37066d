use Rattle.std.proofs.Common.{subst}
use Rattle.children_reader.specs.Taking.{IsTakenOn}
use Rattle.children_reader.proofs.piecewise.take_on.Goals as goal

pub returns-in-Going-clause-read : goal.returns-in-Going-clause-read
returns-in-Going-clause-read c =
    let part = c.requires in
    record { text = part.text; part = part.part; utf8 = part.utf8; taken = subst (IsTakenOn _) c.in-Going.is (c.in_ok-taking.ensures.taken _ part.taken) }

pub returns-in-All-clause-read : goal.returns-in-All-clause-read
returns-in-All-clause-read c =
    let part = c.requires in
    record { text = part.text; part = part.part; utf8 = part.utf8; taken = subst (IsTakenOn _) c.in-All.is (c.in_ok-taking.ensures.taken _ part.taken) }
