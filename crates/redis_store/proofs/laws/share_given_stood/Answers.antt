use Rattle.redis_store.proofs.EngineReplies.{given_stood}
use Rattle.redis_store.proofs.laws.share_given_stood.Goals as goal

pub returns : goal.returns
returns c = given_stood
