-- Bytes that a read cap binds.
use Rattle.std.specs.Prelude.{◌≡◌, ℕ, List, length}
use Rattle.aes_ctr.specs.Crypt.{crypt}
use Rattle.share_codec.specs.Params.{ParamsValue}
use Rattle.share_codec.specs.declared.ueb.Ueb.{Ueb}
use Rattle.share_codec.specs.Tags.{extension_hash}
use Rattle.share_codec.specs.Ueb.{ueb_text, AreRoots}
use Rattle.share_codec.specs.Shares.{roots_of}
use Rattle.caps.specs.Fields.{ReadValue}
use Rattle.file_shares.specs.Numbers.{params_of}

-- bytes of the size, of whose crypttext some extension block of these numbers has the root, and the block has the hash
pub record IsBoundBy (p : ParamsValue) (key ueb bytes : List ℕ) : Type 0 where
  pub size : length bytes ≡ p.size
  pub roots : Ueb
  pub hashes : AreRoots roots
  pub extension : extension_hash (ueb_text p roots) ≡ ueb
  pub top : (roots_of p (crypt key bytes)).crypttext_root ≡ roots.crypttext_root

-- the same, with no word of which block
abbrev pub Bound : ReadValue → List ℕ → Type 0
Bound f bytes = ∥ IsBoundBy (params_of f.k f.n f.size) f.key f.ueb bytes ∥₁
