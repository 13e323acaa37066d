use Rattle.std.proofs.Common.{subst}
use Rattle.children_reader.specs.Kept.{IsOutcome}
use Rattle.children_reader.proofs.TakenMembers.{one_taken}
use Rattle.children_reader.proofs.taking.Taking.put.Goals as goal

pub returns-clause-taken : goal.returns-clause-taken
returns-clause-taken c ts d rest node before =
    one_taken ts c.args.self.now.found.items c.push.new.self.items c.args.key c.in_ok-outcome.outcome d rest c.in_ok-push.ensures.items
    (subst (λ k. IsOutcome k d c.in_ok-outcome.outcome) c.as_str.ensures.value (c.in_ok-outcome.ensures d node)) before
