-- The shares of a file while they are made, step by step.
use Rattle.std.specs.Prelude.{◌≡◌, ℕ, ◌*◌, List, [], ◌++◌, length, map, take}
use Rattle.std.specs.List.{flat_map}
use Rattle.share_codec.specs.Params.{ParamsValue}
use Rattle.share_codec.specs.Segments.{segments, segment_count}
use Rattle.share_codec.specs.Tags.{block_hash}
use Rattle.share_codec.specs.Shares.{segment_hashes}
use Rattle.share_codec.specs.Drafts.{Begun, all_begun, blocks_begun}

-- the numbers of the file, of how many of its segments the blocks stand in the shares, these shares, and the hashes so far
pub record Maker : Type 0 where
  pub params : ParamsValue
  pub coded : ℕ
  pub drafts : List Begun
  pub segment_hashes : List (List ℕ)
  pub block_hashes : List (List ℕ)

-- before any segment was taken
abbrev pub first_maker : ParamsValue → Maker
first_maker p = record { params = p; coded = 0; drafts = all_begun p []; segment_hashes = []; block_hashes = [] }

-- these are the first of all
pub record AreFirstHashes (some all : List (List ℕ)) : Type 0 where
  pub others : List (List ℕ)
  pub whole : some ++ others ≡ all

-- The first steps of making the shares of this crypttext were taken: the blocks of its first `coded` segments stand in the
-- shares, and the hashes so far are the first ones of its segments, and of the blocks, share by share.
pub record IsMaking (m : Maker) (crypttext : List ℕ) : Type 0 where
  pub size : length crypttext ≡ m.params.size
  pub coded : m.drafts ≡ all_begun m.params (take m.coded (segments m.params crypttext))
  pub segments : AreFirstHashes m.segment_hashes (segment_hashes m.params crypttext)
  pub blocks : AreFirstHashes m.block_hashes (map block_hash (flat_map (blocks_begun m.params) m.drafts))

-- how many blocks all shares have
abbrev pub block_count : Maker → ℕ
block_count m = length m.drafts * segment_count m.params

-- all steps were taken but the last one
pub record IsReady (m : Maker) : Type 0 where
  pub coded : m.coded ≡ segment_count m.params
  pub segments : length m.segment_hashes ≡ segment_count m.params
  pub blocks : length m.block_hashes ≡ block_count m
