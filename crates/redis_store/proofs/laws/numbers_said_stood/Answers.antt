use Rattle.redis_store.proofs.EngineReplies.{all_said_stood}
use Rattle.redis_store.proofs.laws.numbers_said_stood.Goals as goal

pub returns : goal.returns
returns c = all_said_stood
