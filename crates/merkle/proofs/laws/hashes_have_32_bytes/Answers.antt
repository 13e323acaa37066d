use Rattle.merkle.proofs.Padded.{root_hash, chain_hashes}
use Rattle.merkle.proofs.laws.hashes_have_32_bytes.Goals as goal

pub returns : goal.returns
returns c = record { root = root_hash; chain = chain_hashes }
