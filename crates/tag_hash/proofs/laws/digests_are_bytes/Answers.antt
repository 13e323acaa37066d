use Rattle.tag_hash.proofs.Digests.{tagged-bytes, tagged16-bytes, pair-bytes}
use Rattle.tag_hash.proofs.laws.digests_are_bytes.Goals as goal

pub returns : goal.returns
returns c = record { tagged = tagged-bytes; tagged16 = tagged16-bytes; pair = pair-bytes }
