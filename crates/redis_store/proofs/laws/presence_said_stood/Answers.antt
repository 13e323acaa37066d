use Rattle.redis_store.proofs.EngineReplies.{said_stood}
use Rattle.redis_store.proofs.laws.presence_said_stood.Goals as goal

pub returns : goal.returns
returns c = said_stood
