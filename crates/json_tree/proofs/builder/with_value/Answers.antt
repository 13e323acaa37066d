use Rattle.std.proofs.Common.{subst}
use Rattle.json_tree.specs.Builders.{HasFrame}
use Rattle.json_tree.proofs.Frames.{item_taken, member_taken}
use Rattle.json_tree.proofs.builder.with_value.Goals as goal

pub returns-in-Ok : goal.returns-in-Ok
returns-in-Ok c frame j has read = item_taken c.in-Array.items c.args.value c.push.new.self c.in-Ok.ensures.items frame j (subst (λ o. HasFrame frame o) c.in-Array.is has) read

pub returns-in-Ok-insert : goal.returns-in-Ok-insert
returns-in-Ok-insert c frame j has read = member_taken c.in-Member.members c.in-Member.key c.args.value c.insert.new.self c.in-Ok-insert.ensures.entries frame j (subst (λ o. HasFrame frame o) c.in-Member.is has) read
