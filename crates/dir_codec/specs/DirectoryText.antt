-- Directory texts (Tahoe-LAFS's dirnodes document, for immutable directories).
use Rattle.std.specs.Prelude.{◌≡◌, ℕ, true, List, [], ◌∷◌, ◌++◌, Some}
use Rattle.caps.specs.CapTexts.{IsCapText, cap_text}
use Rattle.tag_hash.specs.Netstring.{netstring}
use Rattle.dir_codec.specs.Names.{is_name, IsAbove}
use Rattle.json_spelling.specs.Metadata.{spelling_of}
use Rattle.dir_codec.specs.Entries.{is_child_cap}
use Rattle.dir_codec.specs.declared.entry.Entry.{Entry}

-- a netstring that holds four: a name, a read cap's text, a write cap's text and metadata
unfoldable pub entry_text : List ℕ → List ℕ → List ℕ → List ℕ → List ℕ
entry_text name cap write metadata = netstring (netstring name ++ (netstring cap ++ (netstring write ++ netstring metadata)))

-- the text of an entry: it has no write cap, and its metadata is any text that reads to them
pub record IsEntryText (entry : Entry) (text : List ℕ) : Type 0 where
  pub name : is_name entry.name ≡ true
  pub cap : List ℕ
  pub cap_is : IsCapText entry.cap cap
  pub child : is_child_cap entry.cap ≡ true
  pub metadata : List ℕ
  pub metadata_is : spelling_of metadata ≡ Some entry.metadata
  pub text_is : text ≡ entry_text entry.name cap [] metadata

-- the texts of entries in strictly rising order of their names, all above a name, one after another
abbrev pub IsTextAbove : List ℕ → List Entry → List ℕ → Type 0
IsTextAbove name [] text = text ≡ []
IsTextAbove name (entry ∷ more) text =
    (first : List ℕ) × (rest : List ℕ) × (text ≡ first ++ rest) × IsAbove entry.name name × IsEntryText entry first × IsTextAbove entry.name more rest

-- the entries and the text belong together
abbrev pub IsDirectoryText : List Entry → List ℕ → Type 0
IsDirectoryText entries text = IsTextAbove [] entries text

-- the text that is written for entries: metadata in their one spelling
unfoldable pub written_entry : Entry → List ℕ
written_entry entry = entry_text entry.name (cap_text entry.cap) [] entry.metadata

abbrev pub directory_text : List Entry → List ℕ
directory_text [] = []
directory_text (entry ∷ more) = written_entry entry ++ directory_text more
