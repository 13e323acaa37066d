-- How far a writer is.
use Rattle.std.specs.Prelude.{◌≡◌, ◌<◌, ◌≤◌, ℕ, suc, ◌+◌, max, List, [], ◌∷◌, ◌++◌, length, reverse, Bool, false, ◌||◌, Option, Some, None}
use Rattle.serde_json.specs.Data.{Data, items_depth, members_depth, depth}
use Rattle.serde_json.specs.View.{view, items_view, members_view}
use Rattle.serde_json.specs.Written.{has_float, items_have_float, members_have_float, compact_text, items_text, members_text}
use Rattle.serde_json.specs.declared.value.Value.{Value}
use Rattle.json_tree.specs.Parts.{items_part_count, members_part_count, part_count, value_part_count}
use Rattle.json_tree.specs.declared.rest.Rest.{Rest}
use Rattle.json_tree.specs.declared.rest.Reached.{Reached}
use Rattle.json_tree.specs.declared.writer.TextWriter.{TextWriter}
use Rattle.json_tree.specs.declared.writer.Written.{Written}
use Rattle.json_tree.specs.declared.writer.Writing.{Writing}

-- ---- what is left of an array or object, with the bracket that closes it

abbrev pub rest_text : Rest → List ℕ
rest_text (Rest.Items items later) = items_text later (items_view items.items)
rest_text (Rest.Members members later) = members_text later (members_view members.entries)

abbrev pub rest_depth : Rest → ℕ
rest_depth (Rest.Items items later) = items_depth (items_view items.items)
rest_depth (Rest.Members members later) = members_depth (members_view members.entries)

abbrev pub rest_float : Rest → Bool
rest_float (Rest.Items items later) = items_have_float (items_view items.items)
rest_float (Rest.Members members later) = members_have_float (members_view members.entries)

abbrev pub rest_part_count : Rest → ℕ
rest_part_count (Rest.Items items later) = suc (items_part_count (items_view items.items))
rest_part_count (Rest.Members members later) = suc (members_part_count (members_view members.entries))

-- ---- of all that are open, innermost first

abbrev pub rests_text : List Rest → List ℕ
rests_text [] = []
rests_text (r ∷ rs) = rest_text r ++ rests_text rs

abbrev pub rests_depth : List Rest → ℕ
rests_depth [] = 0
rests_depth (r ∷ rs) = max (suc (length rs) + rest_depth r) (rests_depth rs)

abbrev pub rests_float : List Rest → Bool
rests_float [] = false
rests_float (r ∷ rs) = rest_float r || rests_float rs

abbrev pub rests_part_count : List Rest → ℕ
rests_part_count [] = 0
rests_part_count (r ∷ rs) = rest_part_count r + rests_part_count rs

-- ---- of a value that is written before them, inside so many

abbrev pub next_value_text : Option Value → List ℕ
next_value_text None = []
next_value_text (Some value) = compact_text (view value)

abbrev pub next_value_depth : ℕ → Option Value → ℕ
next_value_depth around None = 0
next_value_depth around (Some value) = around + depth (view value)

abbrev pub next_value_float : Option Value → Bool
next_value_float None = false
next_value_float (Some value) = has_float (view value)

-- ---- a writer

-- what is written, that value and what is left come to the text of the whole, and so do their levels and floats
pub record StandsBefore (d : Data) (writer : TextWriter) (next : Option Value) : Type 0 where
  pub text : writer.out.items ++ (next_value_text next ++ rests_text (reverse writer.rests.items)) ≡ compact_text d
  pub levels : max writer.levels (max (next_value_depth (length writer.rests.items) next) (rests_depth (reverse writer.rests.items))) ≡ depth d
  pub fractional : (writer.fractional || (next_value_float next || rests_float (reverse writer.rests.items))) ≡ has_float d
  pub inside : length writer.rests.items ≤ writer.levels

-- a writer of that value
abbrev pub IsWriting : Data → TextWriter → Type 0
IsWriting d writer = StandsBefore d writer writer.next

-- how many parts it has yet to write
abbrev pub parts_to_write : TextWriter → ℕ
parts_to_write writer = value_part_count writer.next + rests_part_count (reverse writer.rests.items)

-- the text of that value, in which a number that is not whole leaves nothing, its levels, and whether it has such a number
pub record IsWritten (d : Data) (written : Written) : Type 0 where
  pub text : written.text.items ≡ compact_text d
  pub levels : written.levels ≡ depth d
  pub fractional : written.fractional ≡ has_float d

-- what a writer of that value comes to
abbrev pub IsWrittenOn : Data → Writing → Type 0
IsWrittenOn d (Writing.Going next) = IsWriting d next
IsWrittenOn d (Writing.Done written) = IsWritten d written

-- it has fewer parts to write, by 1,024 at most
abbrev pub HasLessToWrite : TextWriter → Writing → Type 0
HasLessToWrite old (Writing.Going next) = (parts_to_write next < parts_to_write old) × (parts_to_write old ≤ parts_to_write next + 1024)
HasLessToWrite old (Writing.Done written) = parts_to_write old ≤ 1024

-- before its last part it had written fewer than 65,536 bytes: there, one part more was left than these
abbrev pub IsWithinBytes : TextWriter → ℕ → Type 0
IsWithinBytes old parts =
    (before : TextWriter) × ((d : Data) → IsWriting d old → IsWriting d before) × (parts_to_write before ≤ suc parts) × (length before.out.items < length old.out.items + 65536)

abbrev pub EndsBehindBytes : TextWriter → Writing → Type 0
EndsBehindBytes old (Writing.Going next) = IsWithinBytes old (parts_to_write next)
EndsBehindBytes old (Writing.Done written) = IsWithinBytes old 0

-- ---- for private clauses

-- the value is begun
pub record BeginsValue (old : TextWriter) (value : Value) (new : TextWriter) : Type 0 where
  pub stands : (d : Data) → StandsBefore d old (Some value) → StandsBefore d new None
  pub parts : rests_part_count (reverse new.rests.items) + 1 ≡ part_count (view value) + rests_part_count (reverse old.rests.items)
  pub next : new.next ≡ old.next

-- behind what is written a value comes, or the bracket that closes
abbrev pub Reaches : List ℕ → Rest → List ℕ → Reached → Type 0
Reaches old rest new (Reached.Value value left) =
    (old ++ rest_text rest ≡ new ++ (compact_text (view value) ++ rest_text left))
    × (rest_depth rest ≡ max (depth (view value)) (rest_depth left))
    × (rest_float rest ≡ (has_float (view value) || rest_float left))
    × (rest_part_count rest ≡ part_count (view value) + rest_part_count left)
Reaches old rest new Reached.End = (new ≡ old ++ rest_text rest) × (rest_depth rest ≡ 0) × (rest_float rest ≡ false) × (rest_part_count rest ≡ 1)
