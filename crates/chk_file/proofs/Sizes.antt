-- The size of an upload's crypttext.
use Rattle.std.proofs.Common.{◌≡◌, ◌<◌, length}
use Rattle.chk_file.specs.Upload.{Upload, IsUpload, params, key_of, crypttext_of}
use Rattle.file_shares.proofs.Sound.{CryptIs, CryptLength, length-crypt}

pub some-size : (u : Upload) → IsUpload u → 0 < (params u).size
some-size u is = is.some

pub size-crypttext : CryptIs → CryptLength → (u : Upload) → length (crypttext_of u) ≡ (params u).size
unfolding crypttext_of
size-crypttext is long u = length-crypt is long (key_of u) u.bytes
