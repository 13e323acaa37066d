use Rattle.aes_ctr.proofs.CryptLemmas.{crypt_from-append}
use Rattle.aes_ctr.proofs.laws.pieces_join.Goals as goal

pub returns : goal.returns
returns c = crypt_from-append
