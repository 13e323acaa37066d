use Rattle.std.proofs.Common.{append-nil}
use Rattle.redis_store.proofs.talk.talk.Goals as goal

pub returns-clause-exchanged : goal.returns-clause-exchanged
returns-clause-exchanged g c = simp append-nil at c.talk_parts.ensures.exchanged
