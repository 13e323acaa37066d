use Rattle.redis_store.proofs.EngineReplies.{all_given_stood}
use Rattle.redis_store.proofs.laws.shares_given_stood.Goals as goal

pub returns : goal.returns
returns c = all_given_stood
