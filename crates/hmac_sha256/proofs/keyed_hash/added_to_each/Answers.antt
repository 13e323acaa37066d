use Rattle.std.proofs.Common.{arith}
use Rattle.hmac_sha256.proofs.BlockLemmas.{added_to_more}
use Rattle.hmac_sha256.proofs.keyed_hash.added_to_each.Goals as goal

pub loop-byte-preserved : goal.loop-byte-preserved
loop-byte-preserved c = added_to_more c.args.pad c.args.block.now c.loop-byte.byte-items c.loop-byte.byte-index (omega arith) c.loop-byte.invariant
