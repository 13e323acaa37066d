use Rattle.std.proofs.Common.{ap, ◌∙◌}
use Rattle.ask_desk.specs.Kept.{reply_of_ticket}
use Rattle.ask_desk.proofs.Found.{given_in_order}
use Rattle.ask_desk.proofs.desk.Desk.reply.Goals as goal

pub returns-clause-exact : goal.returns-clause-exact
returns-clause-exact c = λ past a. c.reply.ensures ∙ ap (reply_of_ticket c.args.ticket) (a.kept c.args.owner)

pub returns-clause-in_order : goal.returns-clause-in_order
returns-clause-in_order c = λ past a.
    given_in_order c.args.owner c.args.ticket past c.reply.result a.earlier a.now (c.reply.ensures ∙ ap (reply_of_ticket c.args.ticket) (a.kept c.args.owner))
