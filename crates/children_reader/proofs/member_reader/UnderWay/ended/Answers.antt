use Rattle.std.proofs.Common.{refl}
use Rattle.children_reader.specs.declared.member_reader.UnderWay.{UnderWay}
use Rattle.children_reader.proofs.ValuesUnderWay.{ended_object, ended_array, not_ended}
use Rattle.children_reader.proofs.member_reader.UnderWay.ended.Goals as goal

pub returns-then-object : goal.returns-then-object
returns-then-object c = λ levels s. ended_object c.args.self c.in-Ok.spelled c.in-Ok.ensures levels c.if-object.true s

pub returns-else-object : goal.returns-else-object
returns-else-object c = λ levels s. ended_array c.args.self c.in-Ok.spelled c.in-Ok.ensures levels c.if-object.false s

pub returns-in-Err : goal.returns-in-Err
returns-in-Err c =
    let new : UnderWay = record { object = c.args.self.object; speller = c.in-Err.speller } in
    λ levels s. not_ended c.args.self new refl c.in-Err.ensures levels s
