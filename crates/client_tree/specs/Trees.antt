-- The files that a cap leads to, each under the names that lead there.
use Rattle.std.specs.Prelude.{◌≡◌, ◌⊎◌, ℕ, List, [], ◌∷◌, ◌++◌, Contains}
use Rattle.caps.specs.declared.cap.Cap.{Cap}
use Rattle.dir_codec.specs.declared.entry.Entry.{Entry}
use Rattle.cap_binding.specs.Binds.{AreFileOf}
use Rattle.client_core.specs.Way.{IsDirectoryOf, LeadsTo}
use Rattle.client_tree.specs.Runs.{File}
use Rattle.client_tree.specs.Parts.{AreParts}
use Rattle.client_tree.specs.Joined.{IsJoinedFile}

-- the bytes are of a part of the file that the cap is of
pub record IsPieceOf (cap : Cap) (bytes : List ℕ) : Type 0 where
  pub entries : List Entry
  pub size : ℕ
  pub directory : IsDirectoryOf cap entries
  pub parts : AreParts size entries
  pub entry : Entry
  pub among : Contains entries entry
  pub bound : AreFileOf entry.cap bytes

-- names lead from the cap to one that binds the file's bytes, or has a part that does, and they stand behind that path in the file's own
pub record IsBoundFile (cap : Cap) (path : List (List ℕ)) (file : File) : Type 0 where
  pub names : List (List ℕ)
  pub end : Cap
  pub led : LeadsTo cap names end
  pub path_is : file.path ≡ path ++ names
  pub bound : AreFileOf end file.bytes ⊎ IsPieceOf end file.bytes

-- the same from one of these entries on, whose name comes next
pub record IsBoundBelow (entries : List Entry) (path : List (List ℕ)) (file : File) : Type 0 where
  pub entry : Entry
  pub among : Contains entries entry
  pub bound : IsBoundFile entry.cap (path ++ entry.name ∷ []) file

-- the files of entries under a path, in their order: those that are files, at once or piece after piece, and those that their directories lead to
pub data AreTreesOf : List (List ℕ) → List Entry → List File → Type 0 where
  none : (path : List (List ℕ)) → AreTreesOf path [] []
  file : (path : List (List ℕ)) (entries : List Entry) (files : List File) (entry : Entry) (bytes : List ℕ) → AreTreesOf path entries files → AreFileOf entry.cap bytes
      → AreTreesOf path (entries ++ entry ∷ []) (files ++ record { path = path ++ entry.name ∷ []; bytes = bytes } ∷ [])
  joined : (path : List (List ℕ)) (entries : List Entry) (files more : List File) (entry : Entry) → AreTreesOf path entries files
      → IsJoinedFile entry.cap (path ++ entry.name ∷ []) more → AreTreesOf path (entries ++ entry ∷ []) (files ++ more)
  folder : (path : List (List ℕ)) (entries children : List Entry) (files more : List File) (entry : Entry)
      → AreTreesOf path entries files → IsDirectoryOf entry.cap children → ((size : ℕ) → ¬ (AreParts size children))
      → AreTreesOf (path ++ entry.name ∷ []) children more
      → AreTreesOf path (entries ++ entry ∷ []) (files ++ more)

-- the one file that the cap is of
pub record IsFileOf (cap : Cap) (path : List (List ℕ)) (files : List File) : Type 0 where
  pub bytes : List ℕ
  pub of_cap : AreFileOf cap bytes
  pub one : files ≡ record { path = path; bytes = bytes } ∷ []

-- the files of the directory that the cap is of, which isn't that of a file in parts
pub record IsFolderOf (cap : Cap) (path : List (List ℕ)) (files : List File) : Type 0 where
  pub entries : List Entry
  pub of_cap : IsDirectoryOf cap entries
  pub no_parts : (size : ℕ) → ¬ (AreParts size entries)
  pub all : AreTreesOf path entries files

-- all files of a cap, under a path
abbrev pub IsTreeOf : Cap → List (List ℕ) → List File → Type 0
IsTreeOf cap path files = IsFileOf cap path files ⊎ (IsJoinedFile cap path files ⊎ IsFolderOf cap path files)
