-- What a directory text is read as: its entries, or the first fault of the first entry that has one.
use Rattle.std.specs.Prelude.{ℕ, zero, suc, ◌==◌, List, [], ◌∷◌, length, Option, Some, None, Result, Ok, Err, if◌then◌else◌}
use Rattle.std.specs.Ordering.{nat_cmp, is_lt}
use Rattle.std.specs.Cmp.Lexicographic.{slice_cmp}
use Rattle.std.specs.Result.{result_ok}
use Rattle.caps.specs.declared.cap.Cap.{Cap}
use Rattle.caps.specs.declared.fault.CapFault.{CapFault}
use Rattle.caps.specs.declared.fault.CapFault.TheVariants.{UnknownKind, Mutable, BadField, BadNumber}
use Rattle.caps.specs.Reading.{cap_reading}
use Rattle.dir_codec.specs.Names.{is_name}
use Rattle.json_spelling.specs.Metadata.{spelling_of}
use Rattle.dir_codec.specs.Entries.{is_child_cap}
use Rattle.dir_codec.specs.Parts.{EntryTexts, first_entry}
use Rattle.dir_codec.specs.declared.entry.Entry.{Entry}
use Rattle.dir_codec.specs.declared.fault.DirFault.{DirFault}
use Rattle.dir_codec.specs.declared.fault.DirFault.TheVariants.{Torn, NotSorted, BadName, BadCap, NotImmutable, WriteCap, BadMetadata, NoMemory}

-- why a text names no child: it is no cap's, or that of what can change
abbrev pub child_fault : CapFault → DirFault
child_fault UnknownKind = BadCap
child_fault Mutable = NotImmutable
child_fault BadField = BadCap
child_fault BadNumber = BadCap
child_fault CapFault.NoMemory = NoMemory

-- a child's cap: no verify cap
abbrev pub child_of : Result Cap CapFault → Result Cap DirFault
child_of (Ok cap) = if is_child_cap cap then Ok cap else Err NotImmutable
child_of (Err fault) = Err (child_fault fault)

-- the cap that a text is, where it may be a child
abbrev pub child_reading : List ℕ → Result Cap DirFault
child_reading text = child_of (cap_reading text)

abbrev pub with_metadata : List ℕ → Cap → Option (List ℕ) → Result Entry DirFault
with_metadata name cap (Some metadata) = Ok (record { name = name; cap = cap; metadata = metadata })
with_metadata name cap None = Err BadMetadata

abbrev pub with_cap : EntryTexts → Result Cap DirFault → Result Entry DirFault
with_cap texts (Ok cap) = if length texts.write == 0 then with_metadata texts.name cap (spelling_of texts.metadata) else Err WriteCap
with_cap texts (Err fault) = Err fault

-- the entry of four texts, after an entry of that name
abbrev pub entry_reading : List ℕ → EntryTexts → Result Entry DirFault
entry_reading last texts =
    if is_name texts.name
    then (if is_lt (slice_cmp nat_cmp last texts.name) then with_cap texts (child_reading texts.cap) else Err NotSorted)
    else Err BadName

abbrev pub before_more : Entry → Result (List Entry) DirFault → Result (List Entry) DirFault
before_more entry (Ok more) = Ok (entry ∷ more)
before_more entry (Err fault) = Err fault

abbrev pub then_more : (List ℕ → List ℕ → Result (List Entry) DirFault) → List ℕ → Result Entry DirFault → Result (List Entry) DirFault
then_more read rest (Ok entry) = before_more entry (read entry.name rest)
then_more read rest (Err fault) = Err fault

abbrev pub from_texts : (List ℕ → List ℕ → Result (List Entry) DirFault) → List ℕ → Option (EntryTexts × List ℕ) → Result (List Entry) DirFault
from_texts read last (Some found) = then_more read found.1 (entry_reading last found.0)
from_texts read last None = Err Torn

-- the entries of a text after an entry of that name, at most so many
abbrev pub read_most : ℕ → List ℕ → List ℕ → Result (List Entry) DirFault
read_most most last [] = Ok []
read_most zero last (byte ∷ bytes) = Err Torn
read_most (suc most) last (byte ∷ bytes) = from_texts (read_most most) last (first_entry (byte ∷ bytes))

-- each entry takes a byte at least
unfoldable pub reading_after : List ℕ → List ℕ → Result (List Entry) DirFault
reading_after last text = read_most (length text) last text

-- the entries of a directory text, or the first fault
unfoldable pub directory_reading : List ℕ → Result (List Entry) DirFault
directory_reading text = reading_after [] text

-- a directory's children, or none
unfoldable pub children : List ℕ → Option (List Entry)
children text = result_ok (directory_reading text)
