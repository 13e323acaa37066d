use Rattle.std.proofs.Common.{rules}
use Rattle.ask_desk.proofs.Afters.{next_of_begun}
use Rattle.ask_desk.proofs.desk.Desk.unwritten.Goals as goal

pub returns : goal.returns
returns c = λ past a.
    next_of_begun past c.args.self.now c.back.result _ c.saturating_sub.result c.command_of-command.result.now a c.if-self-eq0.false c.back.ensures.variant c.back.ensures.lookup (search rules)
    c.command_of-command.ensures c.saturating_sub.ensures
