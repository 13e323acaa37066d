use Rattle.share_store.proofs.Levels.{empty_in}
use Rattle.share_store.proofs.share_map.ShareMap.new.Goals as goal

pub returns : goal.returns
returns g c = empty_in g.B.ShareValue.bytes_in c.new.result c.new.ensures.empty
