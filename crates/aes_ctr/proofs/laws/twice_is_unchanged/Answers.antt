use Rattle.aes_ctr.proofs.CryptLemmas.{crypt_from-twice}
use Rattle.aes_ctr.proofs.laws.twice_is_unchanged.Goals as goal

pub returns : goal.returns
returns c = crypt_from-twice
