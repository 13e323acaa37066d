-- The first entry of a text.
use Rattle.std.specs.Prelude.{◌≡◌, ℕ, ◌<◌, ◌≤◌, List, length, drop, Option, Some, IfSome}
use Rattle.dir_codec.specs.Names.{IsAbove}
use Rattle.dir_codec.specs.Entries.{IsEntry}
use Rattle.json_spelling.specs.Metadata.{spelling_of}
use Rattle.dir_codec.specs.Parts.{EntryTexts, first_entry, first_metadata}
use Rattle.dir_codec.specs.Reading.{before_more, then_more, entry_reading, reading_after}
use Rattle.dir_codec.specs.declared.entry.Entry.{Entry}

-- an entry that a text begins with, after an entry of that name, and how many bytes it takes: what the text is read as
-- begins with it, and goes on with what the bytes behind it are read as
pub record IsFirstEntry (last text : List ℕ) (entry : Entry) (size : ℕ) : Type 0 where
  pub some : 0 < size
  pub within : size ≤ length text
  pub above : IsAbove entry.name last
  pub kept : IsEntry entry
  pub read : reading_after last text ≡ before_more entry (reading_after entry.name (drop size text))

-- the spelling of the metadata of the entry that a text begins with, None where they are none; of a torn text anything
abbrev pub IsFirstSpelling : List ℕ → Option (List ℕ) → Type 0
IsFirstSpelling text spelled = IfSome (first_metadata text) (λ metadata. spelled ≡ spelling_of metadata)

-- ---- for private clauses

-- the four texts of an entry that a text begins with, and how many bytes it takes
pub record AreFirstTexts (text : List ℕ) (texts : EntryTexts) (size : ℕ) : Type 0 where
  pub some : 0 < size
  pub within : size ≤ length text
  pub cut : first_entry text ≡ Some (texts, drop size text)
  pub read : (last : List ℕ) → reading_after last text ≡ then_more reading_after (drop size text) (entry_reading last texts)
