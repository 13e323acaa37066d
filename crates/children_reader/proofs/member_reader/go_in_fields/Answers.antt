use Rattle.children_reader.proofs.MemberStages.{pair_ended}
use Rattle.children_reader.proofs.member_reader.go_in_fields.Goals as goal

pub returns-in-EndObject-clause-ok : goal.returns-in-EndObject-clause-ok
returns-in-EndObject-clause-ok c = rw c.in-EndObject.is (λ es room frames at. pair_ended es c.args.key c.args.fields room frames at)
