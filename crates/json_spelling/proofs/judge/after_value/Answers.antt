use Rattle.std.proofs.Common.{subst}
use Rattle.json_spelling.specs.Judge.{IsNoted}
use Rattle.json_spelling.proofs.TokensJudged.{item_noted, member_noted}
use Rattle.json_spelling.proofs.judge.after_value.Goals as goal

pub returns-in-Array : goal.returns-in-Array
returns-in-Array c levels frame f d is fit noted = item_noted c.in-Array.unfit c.args.fit levels frame f d is fit (subst (IsNoted levels f) c.in-Array.is noted)

pub returns-in_ok-with_value-in-Member : goal.returns-in_ok-with_value-in-Member
returns-in_ok-with_value-in-Member c levels frame f d is fit noted =
    member_noted c.in-Member.noted c.in_ok-with_value-in-Member.field-0 c.args.fit c.in_ok-with_value-in-Member.ensures levels frame f d is fit (subst (IsNoted levels f) c.in-Member.is noted)
