-- Entries of a directory, as a `Directory` keeps them.
use Rattle.std.specs.Prelude.{◌≡◌, ⊤, ℕ, Bool, true, false, List, [], ◌∷◌, Some, Ok}
use Rattle.caps.specs.declared.cap.Cap.{Cap}
use Rattle.caps.specs.declared.cap.Cap.TheVariants.{Chk, Lit, DirChk, DirLit, ChkVerify, DirChkVerify}
use Rattle.caps.specs.CapTexts.{cap_text}
use Rattle.caps.specs.Reading.{cap_reading}
use Rattle.dir_codec.specs.Names.{is_name, IsAbove}
use Rattle.json_spelling.specs.Metadata.{spelling_of}
use Rattle.dir_codec.specs.declared.entry.Entry.{Entry}

-- a cap that reads a file or a directory that can't change
abbrev pub is_child_cap : Cap → Bool
is_child_cap (Chk fields) = true
is_child_cap (Lit bytes) = true
is_child_cap (DirChk fields) = true
is_child_cap (DirLit bytes) = true
is_child_cap (ChkVerify fields) = false
is_child_cap (DirChkVerify fields) = false

-- a name, a cap that may be a child and is read back from its text, and metadata in their one spelling
pub record IsEntry (entry : Entry) : Type 0 where
  pub name : is_name entry.name ≡ true
  pub child : is_child_cap entry.cap ≡ true
  pub cap : cap_reading (cap_text entry.cap) ≡ Ok entry.cap
  pub metadata : spelling_of entry.metadata ≡ Some entry.metadata

-- entries in strictly rising order of their names, all above a name
abbrev pub AreEntriesAbove : List ℕ → List Entry → Type 0
AreEntriesAbove name [] = ⊤
AreEntriesAbove name (entry ∷ more) = IsAbove entry.name name × IsEntry entry × AreEntriesAbove entry.name more

-- what a directory is: each name is above the empty text
abbrev pub IsDirectory : List Entry → Type 0
IsDirectory entries = AreEntriesAbove [] entries

-- the name of the last entry, or else that name
abbrev pub last_name : List ℕ → List Entry → List ℕ
last_name name [] = name
last_name name (entry ∷ more) = last_name entry.name more
