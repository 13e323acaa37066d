use Rattle.redis_store.proofs.EngineReplies.{lost_stood}
use Rattle.redis_store.proofs.laws.share_lost_was_gone.Goals as goal

pub returns : goal.returns
returns c = lost_stood
