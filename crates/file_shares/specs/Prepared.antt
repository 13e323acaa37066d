-- What an upload is made of: its read fields and its shares, by its numbers, its secret and its bytes.
use Rattle.std.specs.Prelude.{◌≡◌, ℕ, List, map}
use Rattle.std.specs.List.{range_with_len}
use Rattle.tag_hash.specs.Tagged.{tagged16}
use Rattle.aes_ctr.specs.Crypt.{crypt}
use Rattle.share_codec.specs.Params.{ParamsValue}
use Rattle.share_codec.specs.Shares.{share, ueb_hash}
use Rattle.caps.specs.Fields.{ReadValue}
use Rattle.file_shares.specs.KeyTag.{key_tag}
use Rattle.file_shares.specs.Encoder.{EncoderValue, IsEncoding}

-- the convergent key
abbrev pub key_under : ParamsValue → List ℕ → List ℕ → List ℕ
key_under p secret bytes = tagged16 (key_tag p secret) bytes

-- the read fields
abbrev pub fields_under : ParamsValue → List ℕ → List ℕ → ReadValue
fields_under p secret bytes = record {
  key = key_under p secret bytes;
  ueb = ueb_hash p (crypt (key_under p secret bytes) bytes);
  k = p.k;
  n = p.n;
  size = p.size;
}

-- the shares, by their numbers
abbrev pub shares_under : ParamsValue → List ℕ → List ℕ → List (List ℕ)
shares_under p secret bytes = map (λ i. share p (crypt (key_under p secret bytes) bytes) i) (range_with_len 0 p.n)

-- the shares are made of these bytes under their key, which is kept beside the encoder
pub record IsCoding (p : ParamsValue) (secret bytes key : List ℕ) (e : EncoderValue) : Type 0 where
  pub known : key ≡ key_under p secret bytes
  pub same : e.key ≡ key_under p secret bytes
  pub params : e.maker.params ≡ p
  pub encoding : IsEncoding e bytes
