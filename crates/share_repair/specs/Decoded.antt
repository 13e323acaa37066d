-- Shares that are read and decoded; for private clauses.
use Rattle.std.specs.Prelude.{◌≡◌, ℕ, ◌<◌, List, [], length, map, All, Some, slice_index_or}
use Rattle.octets.specs.Sharing.{IsSharing}
use Rattle.erasure.specs.Code.{AreBytes}
use Rattle.erasure.specs.Given.{AreDistinct}
use Rattle.share_codec.specs.Params.{ParamsValue}
use Rattle.share_codec.specs.Shares.{blocks}
use Rattle.share_codec.specs.GoodShare.{GoodShare, good_share}
use Rattle.share_repair.specs.Files.{FileLabel, Numbered}

-- what is read of these strings, each of which is a good share; for private clauses
abbrev pub AreRead : FileLabel → List Numbered → List GoodShare → Type 0
AreRead label given shares = map (λ (g : Numbered). good_share g.1 g.0 label.params label.ueb) given ≡ map (λ share. Some share) shares

-- the blocks that shares have of a segment, numbered; for private clauses
abbrev pub numbered_blocks : List GoodShare → ℕ → List Numbered
numbered_blocks shares at = map (λ share. (share.number, slice_index_or share.blocks at [])) shares

-- these are k shares of a crypttext, of different numbers; for private clauses
pub record AreGoodOf (p : ParamsValue) (crypttext : List ℕ) (shares : List GoodShare) : Type 0 where
  pub sharing : IsSharing p.k p.n
  pub some : 0 < p.size
  pub bytes : AreBytes crypttext
  pub size : length crypttext ≡ p.size
  pub many : length shares ≡ p.k
  pub apart : AreDistinct (map (λ (share : GoodShare). share.number) shares)
  pub each : All (λ (share : GoodShare). (share.number < p.n) × (share.blocks ≡ blocks p crypttext share.number)) shares
