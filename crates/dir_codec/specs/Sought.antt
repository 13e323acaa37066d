-- What is found under a name in a text, and how far a finder is with it.
use Rattle.std.specs.Prelude.{◌≡◌, ⊤, ℕ, ◌+◌, ◌<◌, ◌≤◌, List, [], ◌++◌, length, drop, Option, Some, None, option_map, Result, Ok, Err}
use Rattle.caps.specs.declared.cap.Cap.{Cap}
use Rattle.dir_codec.specs.Parts.{EntryTexts, first_entry}
use Rattle.dir_codec.specs.Reading.{reading_after, directory_reading}
use Rattle.dir_codec.specs.Find.{child_named}
use Rattle.json_spelling.specs.Judging.{IsJudgedSoFar, judged_bytes}
use Rattle.dir_codec.specs.declared.entry.Entry.{Entry}
use Rattle.dir_codec.specs.declared.fault.DirFault.{DirFault}
use Rattle.dir_codec.specs.declared.finder.Sought.{Sought}
use Rattle.dir_codec.specs.declared.finder.Sought.TheVariants.{Child, NoChild, NoDirectory}
use Rattle.dir_codec.specs.declared.finder.Finder.{Finder}
use Rattle.dir_codec.specs.declared.finder.Finding.{Finding}
use Rattle.dir_codec.specs.declared.finder.Finding.TheVariants.{Going, Done}

-- the cap of the entry of that name
abbrev pub cap_of_child : List ℕ → List Entry → Option Cap
cap_of_child name entries = option_map (λ (entry : Entry). entry.cap) (child_named name entries)

-- what is found, where there is a directory
abbrev pub sought_of : Option Cap → Sought
sought_of (Some cap) = Child cap
sought_of None = NoChild

-- what is found under a name among what a text is read as
abbrev pub sought_among : List ℕ → Result (List Entry) DirFault → Sought
sought_among name (Ok entries) = sought_of (cap_of_child name entries)
sought_among name (Err fault) = NoDirectory

-- what is found under a name in a text
unfoldable pub sought_in : List ℕ → List ℕ → Sought
sought_in name text = sought_among name (directory_reading text)

-- those entries, and then what more is read as
abbrev pub after_those : List Entry → Result (List Entry) DirFault → Result (List Entry) DirFault
after_those those (Ok more) = Ok (those ++ more)
after_those those (Err fault) = Err fault

-- the metadata of an entry, where there is one
abbrev pub metadata_of_entry : Option (EntryTexts × List ℕ) → List ℕ
metadata_of_entry (Some found) = found.0.metadata
metadata_of_entry None = []

-- how many bytes of a text a finder has read, with those of an entry's metadata that were looked through
abbrev pub bytes_read : Finder → ℕ
bytes_read finder = finder.at + judged_bytes finder.judging

-- So far a finder of a name has read the entries of the first bytes of a text, and judged some bytes of the next one's
-- metadata.
pub record IsFinding (name text : List ℕ) (finder : Finder) : Type 0 where
  pub entries : List Entry
  pub named : finder.name ≡ name
  pub within : bytes_read finder ≤ length text
  pub read : directory_reading text ≡ after_those entries (reading_after finder.last (drop finder.at text))
  pub found : finder.found ≡ cap_of_child name entries
  pub judging : IsJudgedSoFar (metadata_of_entry (first_entry (drop finder.at text))) finder.judging

-- it goes on so, or what it found is what the text says
abbrev pub IsFoundOn : List ℕ → List ℕ → Finding → Type 0
IsFoundOn name text (Going next) = IsFinding name text next
IsFoundOn name text (Done sought) = sought ≡ sought_in name text

-- a finder that goes on has read more bytes than this one
abbrev pub IsAhead : Finder → Finding → Type 0
IsAhead finder (Going next) = bytes_read finder < bytes_read next
IsAhead finder (Done sought) = ⊤
