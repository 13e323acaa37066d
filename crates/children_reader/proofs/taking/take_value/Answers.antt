use Rattle.children_reader.proofs.TakenMembers.{member_found, others_stay}
use Rattle.children_reader.proofs.taking.take_value.Goals as goal

pub returns-clause-value : goal.returns-clause-value
returns-clause-value c = member_found c.args.name.now c.args.members.now c.remove.result c.remove.ensures.value

pub returns-clause-others : goal.returns-clause-others
returns-clause-others c other apart = others_stay c.args.name.now other c.args.members.now c.remove.new.self c.remove.ensures.updates apart
