use Rattle.std.proofs.Common.{sym, subst}
use Rattle.children_reader.specs.Collecting.{IsCollectedOn}
use Rattle.children_reader.specs.TextMakers.{IsTextMadeOn}
use Rattle.dir_codec.specs.declared.fault.DirFault.TheVariants.{NotJson}
use Rattle.children_reader.proofs.Stages.{members_made, none_named, fault_named}
use Rattle.children_reader.proofs.text_maker.collect_next.Goals as goal

pub returns-in-All-clause-made : goal.returns-in-All-clause-made
returns-in-All-clause-made c =
    let json = c.args.json.now in
    let left = c.in-All.outcomes.entries in
    let found = subst (IsCollectedOn json) c.in-All.is c.in_ok-next.ensures.collected in
    subst (IsTextMadeOn json) (sym c.going-in-All.ensures) (found.0, members_made json found.0 found.1, none_named c.new.result.entries left found.0 c.new.ensures.empty found.2)

pub returns-in-Refused-clause-made : goal.returns-in-Refused-clause-made
returns-in-Refused-clause-made c =
    let json = c.args.json.now in
    subst (IsTextMadeOn json) (sym c.going-in-Refused.ensures) (fault_named json NotJson (subst (IsCollectedOn json) c.in-Refused.is c.in_ok-next.ensures.collected))
