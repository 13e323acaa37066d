use Rattle.redis_store.proofs.EngineReplies.{put_stood}
use Rattle.redis_store.proofs.laws.share_put_stood.Goals as goal

pub returns : goal.returns
returns c = put_stood
