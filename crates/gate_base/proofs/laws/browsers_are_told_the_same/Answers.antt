use Rattle.gate_base.proofs.Browsing.{same_for_browsers}
use Rattle.gate_base.proofs.laws.browsers_are_told_the_same.Goals as goal

pub returns : goal.returns
returns c = same_for_browsers
