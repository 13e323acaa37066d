-- Uploads: how bytes become a cap and shares (Tahoe-LAFS, file encoding).
use Rattle.std.specs.Prelude.{ℕ, ◌<◌, List, length, map, nat_lt, if◌then◌else◌}
use Rattle.std.specs.List.{range_with_len}
use Rattle.tag_hash.specs.Tagged.{tagged16}
use Rattle.aes_ctr.specs.Crypt.{crypt}
use Rattle.erasure.specs.Code.{AreBytes}
use Rattle.share_codec.specs.Params.{ParamsValue}
use Rattle.share_codec.specs.Shares.{share, ueb_hash}
use Rattle.octets.specs.Sharing.{IsSharing}
use Rattle.caps.specs.Fields.{ReadValue}
use Rattle.caps.specs.declared.cap.Cap.{Cap}
use Rattle.caps.specs.declared.cap.Cap.TheVariants.{Chk, Lit}
use Rattle.caps.specs.StorageIndex.{index_of}
use Rattle.file_shares.specs.Numbers.{params_of}
use Rattle.file_shares.specs.KeyTag.{key_tag}

-- bytes and the secret under which they are uploaded; any k of the n shares give them back
pub record Upload : Type 0 where
  pub k : ℕ
  pub n : ℕ
  pub secret : List ℕ
  pub bytes : List ℕ

abbrev pub uploaded : ℕ → ℕ → List ℕ → List ℕ → Upload
uploaded k n secret bytes = record { k = k; n = n; secret = secret; bytes = bytes }

abbrev pub params : Upload → ParamsValue
params u = params_of u.k u.n (length u.bytes)

-- the convergent key
unfoldable pub key_of : Upload → List ℕ
key_of u = tagged16 (key_tag (params u) u.secret) u.bytes

unfoldable pub crypttext_of : Upload → List ℕ
crypttext_of u = crypt (key_of u) u.bytes

-- its read fields
abbrev pub fields : Upload → ReadValue
fields u = record { key = key_of u; ueb = ueb_hash (params u) (crypttext_of u); k = u.k; n = u.n; size = length u.bytes }

-- the storage index of its shares
abbrev pub index : Upload → List ℕ
index u = index_of (key_of u)

-- share i, and all of them
abbrev pub share_of : Upload → ℕ → List ℕ
share_of u i = share (params u) (crypttext_of u) i

abbrev pub shares_of : Upload → List (List ℕ)
shares_of u = map (share_of u) (range_with_len 0 u.n)

-- its cap: short bytes stand in the cap itself
abbrev pub upload_cap : Upload → Cap
upload_cap u = if nat_lt 55 (length u.bytes) then Chk (fields u) else Lit u.bytes

-- what an upload can be
pub record IsUpload (u : Upload) : Type 0 where
  pub sharing : IsSharing u.k u.n
  pub some : 0 < length u.bytes
  pub bytes : AreBytes u.bytes
