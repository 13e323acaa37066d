-- A file that is too long for one upload: a directory whose children are its parts, in their order.
use Rattle.std.specs.Prelude.{◌≡◌, ℕ, ◌+◌, ◌-◌, ◌<◌, ◌≤◌, min, List, [], ◌∷◌, ◌++◌, length, take, map, codes, decimal, Option, Some, None}
use Rattle.std.specs.List.{concat}
use Rattle.caps.specs.declared.cap.Cap.{Cap}
use Rattle.caps.specs.declared.cap.Cap.TheVariants.{Chk, Lit, DirChk, DirLit, ChkVerify, DirChkVerify}
use Rattle.dir_codec.specs.declared.entry.Entry.{Entry}
use Rattle.cap_binding.specs.Binds.{AreFileOf}
use Rattle.client_core.specs.Way.{IsDirectoryOf}

-- how many bytes each part has, but for the last
abbrev pub part_bytes : ℕ
part_bytes = 16777216

-- how many parts there are at most: their places have ten digits
abbrev pub most_parts : ℕ
most_parts = 10000000000

-- a part's name: its place, behind as many zeros as make it ten digits, so that names stand in the order of the parts
unfoldable pub part_name : ℕ → List ℕ
part_name place = take (10 - length (decimal place)) (codes "0000000000") ++ decimal place

-- what each entry says beside its cap, as `serde_json` writes it: how many parts there are, and how many bytes in all
unfoldable pub parts_metadata : ℕ → ℕ → List ℕ
parts_metadata count size = codes "{\"wozhinnam-parts\":{\"count\":" ++ (decimal count ++ (codes ",\"size\":" ++ (decimal size ++ codes "}}")))

-- how many bytes the file has that the cap is of
abbrev pub size_of_file : Cap → Option ℕ
size_of_file (Chk fields) = Some fields.size
size_of_file (Lit bytes) = Some (length bytes)
size_of_file (DirChk fields) = None
size_of_file (DirLit bytes) = None
size_of_file (ChkVerify fields) = None
size_of_file (DirChkVerify fields) = None

-- the same of the last entry; for a private clause
abbrev pub size_of_last : List Entry → Option ℕ
size_of_last [] = None
size_of_last (entry ∷ []) = size_of_file entry.cap
size_of_last (entry ∷ other ∷ more) = size_of_last (other ∷ more)

-- the entry of the part at that place, from which on so many bytes are left of a file of so many parts and bytes
pub record IsPartEntry (count size place left : ℕ) (entry : Entry) : Type 0 where
  pub some : 0 < left
  pub name : entry.name ≡ part_name place
  pub metadata : entry.metadata ≡ parts_metadata count size
  pub size_is : size_of_file entry.cap ≡ Some (min left part_bytes)

-- the entries of all parts from that place on
abbrev pub ArePartsFrom : ℕ → ℕ → ℕ → ℕ → List Entry → Type 0
ArePartsFrom count size place left [] = left ≡ 0
ArePartsFrom count size place left (entry ∷ more) = IsPartEntry count size place left entry × ArePartsFrom count size (place + 1) (left - part_bytes) more

-- the entries of all parts of a file of so many bytes
pub record AreParts (size : ℕ) (entries : List Entry) : Type 0 where
  pub long : part_bytes < size
  pub count : length entries ≤ most_parts
  pub parts : ArePartsFrom (length entries) size 0 size entries

-- these pieces are of these caps, one each
abbrev pub AreFilesOf : List Cap → List (List ℕ) → Type 0
AreFilesOf [] [] = Unit {0}
AreFilesOf (cap ∷ caps) (piece ∷ pieces) = AreFileOf cap piece × AreFilesOf caps pieces
AreFilesOf [] (piece ∷ pieces) = ⊥
AreFilesOf (cap ∷ caps) [] = ⊥

-- the caps of entries, in their order
abbrev pub caps_of : List Entry → List Cap
caps_of entries = map (λ entry. entry.cap) entries

-- the cap is of a directory of the parts of these bytes, which are those of the parts, one after the other
pub record IsCutInParts (cap : Cap) (bytes : List ℕ) : Type 0 where
  pub entries : List Entry
  pub directory : IsDirectoryOf cap entries
  pub parts : AreParts (length bytes) entries
  pub pieces : List (List ℕ)
  pub bound : AreFilesOf (caps_of entries) pieces
  pub joined : concat pieces ≡ bytes
