-- What each run keeps of a world, and the premise that some strings don't collide.
use Rattle.std.specs.Prelude.{◌≡◌, ℕ, ◌<◌, List, length, All, Some}
use Rattle.tag_hash.specs.Collisions.{Includes}
use Rattle.tag_hash.specs.Use.{Use}
use Rattle.caps.specs.Fields.{ReadValue}
use Rattle.caps.specs.StorageIndex.{index_of}
use Rattle.file_shares.specs.Numbers.{params_of}
use Rattle.chk_file.specs.Upload.{Upload, fields, index, share_of, IsUpload}
use Rattle.chk_file.specs.Uses.{upload_uses}
use Rattle.file_shares.specs.Row.{row_uses}
use Rattle.chk_file.specs.Marks.{Mark, marks_of, shown_row}
use Rattle.chk_file.specs.World.{World}

-- a file is known by the fields of its upload
pub record IsFileAt (f : ReadValue) (u : Upload) : Type 0 where
  pub named : fields u ≡ f
  pub upload : IsUpload u

-- a mark stands under the index of its upload, and its toggles are inside the share
pub record IsMarkAt (si : List ℕ) (number : ℕ) (mark : Mark) : Type 0 where
  pub placed : index mark.upload ≡ si
  pub upload : IsUpload mark.upload
  pub below : number < mark.upload.n
  pub inside : All (λ place. place < length (share_of mark.upload number)) mark.toggles

pub record IsSoundWorld (w : World) : Type 0 where
  pub files : (f : ReadValue) (u : Upload) → w.files f ≡ Some u → IsFileAt f u
  pub marks : (server : ℕ) (si : List ℕ) (number : ℕ) (mark : Mark) → w.marks server (si, number) ≡ Some mark → IsMarkAt si number mark

-- the strings are among these that are hashed to encode the uploads of a cap's index, and to verify what stands there
pub record IsCovered (uses : List Use) (w : World) (f : ReadValue) : Type 0 where
  pub files : (g : ReadValue) (u : Upload) → w.files g ≡ Some u → index_of g.key ≡ index_of f.key → Includes uses (upload_uses u)
  pub marks : (server number : ℕ) (mark : Mark) → marks_of w.marks (index_of f.key) server number ≡ Some mark → Includes uses (upload_uses mark.upload)
  pub stood : Includes uses (row_uses (params_of f.k f.n f.size) (shown_row (marks_of w.marks (index_of f.key))))
