use Rattle.aes_ctr.proofs.ByteLemmas.{stream_low, crypt_from_low}
use Rattle.aes_ctr.proofs.laws.bytes_stay_bytes.Goals as goal

pub returns : goal.returns
returns c = record { keystream = stream_low; result = crypt_from_low }
