-- What each good share has, as laws of shares say it.
use Rattle.std.proofs.Common.{◌≡◌, ℕ, List, Some}
use Rattle.share_codec.specs.Params.{ParamsValue}
use Rattle.share_codec.specs.Tags.{extension_hash}
use Rattle.share_codec.specs.Ueb.{ueb_text, AreRoots}
use Rattle.share_codec.specs.GoodShare.{GoodShare, good_share, IsReadFrom, IsCutInBlocks}

-- what each good share has
pub record IsSealed (p : ParamsValue) (ueb : List ℕ) (share : GoodShare) : Type 0 where
  pub hashes : AreRoots share.ueb
  pub extension : extension_hash (ueb_text p share.ueb) ≡ ueb

abbrev pub ReadFrom : Type 0
ReadFrom = (s : List ℕ) (number : ℕ) (p : ParamsValue) (ueb : List ℕ) (good : GoodShare) → good_share s number p ueb ≡ Some good → IsReadFrom s number p ueb good

abbrev pub GoodIsCut : Type 0
GoodIsCut = (s : List ℕ) (number : ℕ) (p : ParamsValue) (ueb : List ℕ) (good : GoodShare) → good_share s number p ueb ≡ Some good → IsCutInBlocks p good
