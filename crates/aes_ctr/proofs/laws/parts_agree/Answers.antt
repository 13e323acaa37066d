use Rattle.std.proofs.Common.{refl}
use Rattle.aes_ctr.specs.Crypt.{crypt}
use Rattle.aes_ctr.proofs.CryptLemmas.{take-crypt_from, drop-crypt_from}
use Rattle.aes_ctr.proofs.laws.parts_agree.Goals as goal

pub returns : goal.returns
unfolding crypt
returns c = record { front = take-crypt_from; back = drop-crypt_from; whole = λ key bytes. refl }
