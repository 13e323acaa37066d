-- Files that were stored, under the names that lead to them.
use Rattle.std.specs.Prelude.{◌≡◌, ◌⊎◌, ℕ, ◌<◌, List, [], ◌∷◌, ◌++◌, length, All, Contains, Some, map, chars, encode_utf8_all}
use Rattle.std.specs.List.{concat}
use Rattle.unicode_normalization.specs.Forms.{nfc}
use Rattle.caps.specs.declared.cap.Cap.{Cap}
use Rattle.dir_codec.specs.declared.entry.Entry.{Entry}
use Rattle.path_walk.specs.Walk.{cap_named}
use Rattle.cap_binding.specs.Binds.{AreFileOf}
use Rattle.client_core.specs.Way.{IsDirectoryOf, LeadsTo}
use Rattle.client_tree.specs.Runs.{File}
use Rattle.client_tree.specs.Parts.{part_bytes, caps_of, AreParts, IsCutInParts}
use Rattle.client_tree.specs.Joined.{pieces_at}
use Rattle.client_tree.specs.declared.children.Child.{Child}

-- the name under which a directory has what a folder has under that name (UAX 15)
unfoldable pub stored_name : List ℕ → List ℕ
stored_name name = encode_utf8_all (nfc (chars name))

-- the cap is of these bytes, as one file or as one in parts
abbrev pub IsStoredWhole : Cap → List ℕ → Type 0
IsStoredWhole cap bytes = AreFileOf cap bytes ⊎ IsCutInParts cap bytes

-- the pieces of the file under that path up to one that is shorter than a part, and the cap is of all of them
pub record IsStoredAt (cap : Cap) (path : List (List ℕ)) (files : List File) : Type 0 where
  pub pieces : List (List ℕ)
  pub end : List ℕ
  pub short : length end < part_bytes
  pub files_are : files ≡ pieces_at path (pieces ++ end ∷ [])
  pub stored : IsStoredWhole cap (concat (pieces ++ end ∷ []))

-- the same behind the first piece; for a private clause
abbrev pub IsStoredFrom : Cap → List (List ℕ) → List ℕ → List File → Type 0
IsStoredFrom cap path first files = IsStoredAt cap path (record { path = path; bytes = first } ∷ files)

-- the names behind that path in the file's own lead from the cap to one of all its pieces
pub record IsStoredFile (cap : Cap) (path : List (List ℕ)) (files : List File) : Type 0 where
  pub names : List (List ℕ)
  pub end : Cap
  pub led : LeadsTo cap (map stored_name names) end
  pub stored : IsStoredAt end (path ++ names) files

-- the same from one of these children on, whose name comes next; for a private clause
pub record IsStoredBelow (children : List Child) (path : List (List ℕ)) (files : List File) : Type 0 where
  pub child : Child
  pub among : Contains children child
  pub stored : child.stored ≡ stored_name child.name
  pub bound : IsStoredFile child.cap (path ++ child.name ∷ []) files

-- the cap is of a directory of all parts of a file of so many bytes, whose caps these are; for a private clause
pub record HasParts (caps : List Cap) (size : ℕ) (cap : Cap) : Type 0 where
  pub entries : List Entry
  pub directory : IsDirectoryOf cap entries
  pub parts : AreParts size entries
  pub caps_are : caps_of entries ≡ caps

-- the cap is of a directory that has these children under their names
pub record HasChildren (children : List Child) (cap : Cap) : Type 0 where
  pub entries : List Entry
  pub of_cap : IsDirectoryOf cap entries
  pub named : All (λ (child : Child). cap_named child.stored entries ≡ Some child.cap) children

-- the cap is of a directory
pub record IsAnyDirectory (cap : Cap) : Type 0 where
  pub entries : List Entry
  pub of_cap : IsDirectoryOf cap entries
