use Rattle.std.proofs.Common.{subst}
use Rattle.dir_codec.specs.Sought.{IsFoundOn}
use Rattle.dir_codec.proofs.finder.Finder.step.Goals as goal

pub returns-in-Done-clause-found : goal.returns-in-Done-clause-found
returns-in-Done-clause-found c name so =
    subst (IsFoundOn name c.args.text.now) c.in-Done.is (c.in_ok-next.ensures.found name (c.loop-finder.invariant.finding name so))
