use Rattle.std.proofs.Common.{subst}
use Rattle.children_reader.specs.Readings.{IsReadOn}
use Rattle.children_reader.proofs.PartsRead.{behind_refused}
use Rattle.children_reader.proofs.collecting.Collecting.step.Goals as goal

pub returns-in-NotJson-clause-collected : goal.returns-in-NotJson-clause-collected
returns-in-NotJson-clause-collected c =
    let json = c.args.json.now in
    let self = c.args.self in
    behind_refused json self c.requires (subst (IsReadOn json self.at) c.in-NotJson.is c.in_ok-reading.ensures.read)
