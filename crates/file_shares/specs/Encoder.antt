-- The shares of bytes under a key while they are made.
use Rattle.std.specs.Prelude.{◌≡◌, ℕ, ◌<◌, ◌≤◌, ◌-◌, ◌^◌, List, [], length, take, drop}
use Rattle.aes_ctr.specs.Crypt.{crypt}
use Rattle.share_codec.specs.Segments.{segments, segment_count}
use Rattle.share_codec.specs.Maker.{Maker, IsMaking}

-- the key, the encrypted segments that are coded and not hashed yet, and the shares
pub record EncoderValue : Type 0 where
  pub key : List ℕ
  pub waiting : List (List ℕ)
  pub maker : Maker

-- The first steps were taken of making the shares of these bytes under the key: segments are coded in order, and those
-- of them that are not hashed wait for it; no block is hashed before all segments are coded.
pub record IsEncoding (e : EncoderValue) (bytes : List ℕ) : Type 0 where
  pub size : length bytes ≡ e.maker.params.size
  pub some : 0 < e.maker.params.size
  pub fits : e.maker.params.size < 2 ^ 63
  pub making : IsMaking e.maker (crypt e.key bytes)
  pub coded : e.maker.coded ≤ segment_count e.maker.params
  pub hashed : length e.maker.segment_hashes ≤ e.maker.coded
  pub waiting : e.waiting ≡ take (e.maker.coded - length e.maker.segment_hashes) (drop (length e.maker.segment_hashes) (segments e.maker.params (crypt e.key bytes)))
  pub fresh : e.maker.coded < segment_count e.maker.params → e.maker.block_hashes ≡ []
