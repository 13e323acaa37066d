-- A collision among named strings.
use Rattle.std.specs.Prelude.{ℕ, List, length, Contains}
use Rattle.aes_ctr.specs.Crypt.{crypt}
use Rattle.tag_hash.specs.Use.{Use}
use Rattle.share_codec.specs.Uses.{share_uses}
use Rattle.caps.specs.Fields.{ReadValue}
use Rattle.file_shares.specs.Numbers.{params_of}
use Rattle.chk_file.specs.Collide.{Collide}

-- two of these uses collide
pub record HasCollision (uses : List Use) : Type 0 where
  pub one : Use
  pub other : Use
  pub first : Contains uses one
  pub second : Contains uses other
  pub collide : Collide one other

-- the strings that are hashed to encode bytes under the fields' key, k and n
unfoldable pub bound_uses : ReadValue → List ℕ → List Use
bound_uses f bytes = share_uses (params_of f.k f.n (length bytes)) (crypt f.key bytes)
