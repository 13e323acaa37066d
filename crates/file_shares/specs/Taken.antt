-- What is known of good shares that were taken to read a file, however they came to be.
use Rattle.std.specs.Prelude.{◌≡◌, ◌<◌, List, length, map, All}
use Rattle.octets.specs.Sharing.{IsSharing}
use Rattle.erasure.specs.Given.{AreDistinct}
use Rattle.share_codec.specs.Params.{ParamsValue}
use Rattle.share_codec.specs.GoodShare.{GoodShare, IsCutInBlocks}

-- there are k of them, of different numbers, of a file that isn't empty, with blocks of the right lengths
pub record AreTaken (p : ParamsValue) (shares : List GoodShare) : Type 0 where
  pub sharing : IsSharing p.k p.n
  pub some : 0 < p.size
  pub many : length shares ≡ p.k
  pub cut : All (IsCutInBlocks p) shares
  pub apart : AreDistinct (map (λ (share : GoodShare). share.number) shares)
