use Rattle.std.proofs.Common.{length}
use Rattle.redis_store.proofs.paced_link.PacedLink.write_part.Given as goal

abbrev pub decreases-loop-rest : goal.decreases-loop-rest
decreases-loop-rest g l = length l.rest
