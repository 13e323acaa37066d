use Rattle.tag_hash.proofs.HashLemmas.{digest-tagged_use, digest-tagged16_use, digest-pair_use}
use Rattle.tag_hash.proofs.laws.digests_are_the_hashes.Goals as goal

pub returns : goal.returns
returns c = record { tagged = digest-tagged_use; tagged16 = digest-tagged16_use; pair = digest-pair_use }
