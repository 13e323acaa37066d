use Rattle.redis_store.proofs.Digits.{one_key}
use Rattle.redis_store.proofs.laws.keys_are_told_apart.Goals as goal

pub returns : goal.returns
returns c = one_key
