use Rattle.gate_poll.proofs.Keeping.{kept_more, ids_rise}
use Rattle.gate_poll.proofs.table.Table.new_id.Goals as goal

pub returns-clause-kept : goal.returns-clause-kept
returns-clause-kept c = kept_more c.args.self.now.ids.next c.take.new.self.next c.args.self.now.peers.entries c.args.self.now.turns (ids_rise c.take.result c.args.self.now.ids c.take.new.self c.take.ensures.given c.take.ensures.rises c.take.ensures.none) c.requires

pub returns-clause-next : goal.returns-clause-next
returns-clause-next c = ids_rise c.take.result c.args.self.now.ids c.take.new.self c.take.ensures.given c.take.ensures.rises c.take.ensures.none
