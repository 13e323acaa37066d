use Rattle.share_store.proofs.Parts.{nothing_before}
use Rattle.share_store.proofs.share_map.ShareMap.start_for.Goals as goal

pub returns-then-at-self-clause-counted : goal.returns-then-at-self-clause-counted
returns-then-at-self-clause-counted g c = nothing_before g.B.ShareValue.bytes_in c.args.self.now.indexes.entries
