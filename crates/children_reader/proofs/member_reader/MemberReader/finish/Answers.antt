use Rattle.std.proofs.Common.{sym, ◌∙◌}
use Rattle.children_reader.proofs.MemberStages.{members_read, members_unread}
use Rattle.children_reader.proofs.member_reader.MemberReader.finish.Goals as goal

pub returns-then-object_has_ended : goal.returns-then-object_has_ended
returns-then-object_has_ended c = members_read c.args.self (sym c.object_has_ended.ensures ∙ c.if-object_has_ended.true)

pub returns-else-object_has_ended : goal.returns-else-object_has_ended
returns-else-object_has_ended c = members_unread c.args.self (sym c.object_has_ended.ensures ∙ c.if-object_has_ended.false)
