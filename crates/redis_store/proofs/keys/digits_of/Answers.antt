use Rattle.std.proofs.Common.{rules, append_assoc}
use Rattle.redis_store.specs.Keys.{digits}
use Rattle.redis_store.proofs.keys.digits_of.Goals as goal

pub returns : goal.returns
unfolding digits
returns c = search (rules, append_assoc)
