-- What it is that a row's shares give, without a word on decoding.
use Rattle.std.specs.Prelude.{◌≡◌, ℕ, ◌≤◌, List, length, take, All, IfSome}
use Rattle.aes_ctr.specs.Crypt.{crypt}
use Rattle.erasure.specs.Code.{AreBytes}
use Rattle.share_codec.specs.Params.{ParamsValue}
use Rattle.share_codec.specs.Shares.{blocks, roots_of}
use Rattle.share_codec.specs.GoodShare.{GoodShare}
use Rattle.caps.specs.Fields.{ReadValue}
use Rattle.file_shares.specs.Numbers.{params_of}
use Rattle.file_shares.specs.Row.{ShareTable, good_shares}

-- bytes of the size whose crypttext has, in the first k of these shares, the blocks that stand there, and whose
-- crypttext root is that of the first
pub record IsGivenBy (p : ParamsValue) (key : List ℕ) (shares : List GoodShare) (bytes : List ℕ) : Type 0 where
  pub enough : p.k ≤ length shares
  pub size : length bytes ≡ p.size
  pub blocks : All (λ (share : GoodShare). blocks p (crypt key bytes) share.number ≡ share.blocks) (take p.k shares)
  pub top : All (λ (share : GoodShare). (roots_of p (crypt key bytes)).crypttext_root ≡ share.ueb.crypttext_root) (take 1 shares)

-- what stands in a row are bytes
abbrev pub IsByteRow : ShareTable → Type 0
IsByteRow row = (server number : ℕ) → IfSome (row server number) AreBytes

abbrev pub IsFit : ShareTable → ReadValue → List ℕ → Type 0
IsFit row f bytes = let p = params_of f.k f.n f.size in IsGivenBy p f.key (good_shares p f.ueb row) bytes
