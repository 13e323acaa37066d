use Rattle.redis_store.proofs.EngineReplies.{last_exchange}
use Rattle.redis_store.proofs.laws.calls_are_last_exchanges.Goals as goal

pub returns : goal.returns
returns c = last_exchange
