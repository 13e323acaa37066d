-- Why a text is no directory's: the first fault of the first entry that has one.
use Rattle.std.specs.Prelude.{◌≡◌, ◌≢◌, ◌⊎◌, ℕ, true, false, List, [], ◌++◌, None}
use Rattle.caps.specs.CapTexts.{IsCapText}
use Rattle.caps.specs.Refusals.{RefusesCap}
use Rattle.caps.specs.declared.cap.Cap.{Cap}
use Rattle.caps.specs.declared.fault.CapFault.TheVariants.{UnknownKind, Mutable, BadField, BadNumber}
use Rattle.dir_codec.specs.Names.{is_name, IsAbove}
use Rattle.json_spelling.specs.Metadata.{spelling_of}
use Rattle.dir_codec.specs.Entries.{is_child_cap, last_name}
use Rattle.dir_codec.specs.Parts.{EntryTexts}
use Rattle.dir_codec.specs.DirectoryText.{entry_text, IsTextAbove}
use Rattle.dir_codec.specs.declared.entry.Entry.{Entry}
use Rattle.dir_codec.specs.declared.fault.DirFault.{DirFault}
use Rattle.dir_codec.specs.declared.fault.DirFault.TheVariants.{Torn, NotSorted, BadName, BadCap, NotImmutable, WriteCap, BadMetadata}

-- the text of an entry of these four texts
abbrev pub text_of_entry : EntryTexts → List ℕ
text_of_entry texts = entry_text texts.name texts.cap texts.write texts.metadata

-- why a text names no child: it is no cap's, or that of something that can change, or a cap that reads nothing
abbrev pub IsNoChild : DirFault → List ℕ → Type 0
IsNoChild BadCap text = RefusesCap UnknownKind text ⊎ (RefusesCap BadField text ⊎ RefusesCap BadNumber text)
IsNoChild NotImmutable text = RefusesCap Mutable text ⊎ ((cap : Cap) × IsCapText cap text × (is_child_cap cap ≡ false))
IsNoChild other text = ⊥

-- a name that is above the last one, and a child's cap
pub record HasNameAndCap (last : List ℕ) (texts : EntryTexts) (cap : Cap) : Type 0 where
  pub name : is_name texts.name ≡ true
  pub above : IsAbove texts.name last
  pub is : IsCapText cap texts.cap
  pub child : is_child_cap cap ≡ true

-- what is said against the four texts of an entry, after an entry of that name: each fault holds where none before it
-- in its order does
abbrev pub IsFault : DirFault → List ℕ → EntryTexts → Type 0
IsFault BadName last texts = is_name texts.name ≡ false
IsFault NotSorted last texts = (is_name texts.name ≡ true) × ¬ (IsAbove texts.name last)
IsFault BadCap last texts = (is_name texts.name ≡ true) × IsAbove texts.name last × IsNoChild BadCap texts.cap
IsFault NotImmutable last texts = (is_name texts.name ≡ true) × IsAbove texts.name last × IsNoChild NotImmutable texts.cap
IsFault WriteCap last texts = (cap : Cap) × HasNameAndCap last texts cap × (texts.write ≢ [])
IsFault BadMetadata last texts = (cap : Cap) × HasNameAndCap last texts cap × (texts.write ≡ []) × (spelling_of texts.metadata ≡ None)
IsFault other last texts = ⊥

-- what is said against the entry that stands next: no entry's text stands there, or one whose texts have a fault
abbrev pub HasFault : DirFault → List ℕ → List ℕ → Type 0
HasFault Torn last text = (text ≢ []) × ((texts : EntryTexts) (more : List ℕ) → text ≢ text_of_entry texts ++ more)
HasFault other last text = (texts : EntryTexts) × (more : List ℕ) × (text ≡ text_of_entry texts ++ more) × IsFault other last texts

-- entries without a fault stand before the one that has it, all above a name
pub record RefusesAbove (name : List ℕ) (fault : DirFault) (text : List ℕ) : Type 0 where
  pub entries : List Entry
  pub good : List ℕ
  pub rest : List ℕ
  pub text_is : text ≡ good ++ rest
  pub belong : IsTextAbove name entries good
  pub first : HasFault fault (last_name name entries) rest

abbrev pub RefusesDirectory : DirFault → List ℕ → Type 0
RefusesDirectory fault text = RefusesAbove [] fault text
