use Rattle.aes_ctr.proofs.CryptLemmas.{length-crypt_from, get_or-crypt_from}
use Rattle.aes_ctr.proofs.laws.keystream_by_place.Goals as goal

pub returns : goal.returns
returns c = record { length = length-crypt_from; byte = get_or-crypt_from }
