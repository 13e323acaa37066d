use Rattle.children_reader.proofs.MemberStages.{none_read}
use Rattle.children_reader.proofs.member_reader.MemberReader.new.Goals as goal

pub returns : goal.returns
returns c = none_read c.new.result.items c.new.ensures.items
