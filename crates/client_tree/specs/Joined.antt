-- A file that is written piece after piece.
use Rattle.std.specs.Prelude.{◌≡◌, ◌⊎◌, ℕ, List, [], ◌++◌, map}
use Rattle.caps.specs.declared.cap.Cap.{Cap}
use Rattle.dir_codec.specs.declared.entry.Entry.{Entry}
use Rattle.client_core.specs.Way.{IsDirectoryOf}
use Rattle.client_tree.specs.Runs.{File}
use Rattle.client_tree.specs.Parts.{AreFilesOf, caps_of, AreParts, IsCutInParts}

-- pieces of the file under that path, one after the other
abbrev pub pieces_at : List (List ℕ) → List (List ℕ) → List File
pieces_at path pieces = map (λ piece. record { path = path; bytes = piece }) pieces

-- such pieces, each of the file of its entry
pub record ArePiecesAt (path : List (List ℕ)) (entries : List Entry) (files : List File) : Type 0 where
  pub pieces : List (List ℕ)
  pub bound : AreFilesOf (caps_of entries) pieces
  pub files_are : files ≡ pieces_at path pieces

-- the same of the first of these entries
pub record AreFirstPiecesAt (path : List (List ℕ)) (entries : List Entry) (files : List File) : Type 0 where
  pub first : List Entry
  pub rest : List Entry
  pub entries_are : entries ≡ first ++ rest
  pub at_path : ArePiecesAt path first files

-- all pieces of the file whose parts the cap's directory has
pub record IsJoinedFile (cap : Cap) (path : List (List ℕ)) (files : List File) : Type 0 where
  pub bytes : List ℕ
  pub cut : IsCutInParts cap bytes
  pub files_are : files ≡ pieces_at path cut.pieces

-- the first pieces of such a file
pub record IsBegunFile (cap : Cap) (path : List (List ℕ)) (files : List File) : Type 0 where
  pub entries : List Entry
  pub size : ℕ
  pub directory : IsDirectoryOf cap entries
  pub parts : AreParts size entries
  pub first : AreFirstPiecesAt path entries files

-- nothing was written, or the first pieces of a file in parts
abbrev pub IsUnfinishedAt : Cap → List (List ℕ) → List File → Type 0
IsUnfinishedAt cap path files = (files ≡ []) ⊎ IsBegunFile cap path files
