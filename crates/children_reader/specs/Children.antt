-- What children JSON names: an object whose members are `name: [kind, fields]`.
use Rattle.std.specs.Prelude.{ℕ, ◌==◌, nat_le, not, Bool, true, false, List, [], ◌∷◌, length, codes, Option, Some, None, is_some, option_and_then, Result, Ok, Err, if◌then◌else◌}
use Rattle.std.specs.Ordering.{nat_cmp, is_lt}
use Rattle.std.specs.Cmp.Lexicographic.{slice_cmp}
use Rattle.std.specs.Result.{result_ok}
use Rattle.serde_json.specs.Data.{Data, null, boolean, number, string, array, object, no_items, item, Members, no_members, member, depth}
use Rattle.serde_json.specs.Find.{get, as_str, as_object}
use Rattle.serde_json.specs.Written.{has_float, compact_text}
use Rattle.json_spelling.specs.Metadata.{json_of}
use Rattle.dir_codec.specs.Names.{nfc_text}
use Rattle.dir_codec.specs.Reading.{child_reading}
use Rattle.dir_codec.specs.Find.{child_named}
use Rattle.dir_codec.specs.declared.entry.Entry.{Entry}
use Rattle.dir_codec.specs.declared.fault.DirFault.{DirFault}
use Rattle.dir_codec.specs.declared.fault.DirFault.TheVariants.{BadName, WriteCap, BadMetadata, NotJson, BadShape, SameName, FractionalNumber}

-- what f makes of the value, if there is one
abbrev pub then_make : {A B : Type 0} → (A → Result B DirFault) → Result A DirFault → Result B DirFault
then_make f (Ok x) = f x
then_make f (Err fault) = Err fault

-- the value, or else a fault
abbrev pub or_dir_fault : {A : Type 0} → DirFault → Option A → Result A DirFault
or_dir_fault fault (Some x) = Ok x
or_dir_fault fault None = Err fault

-- the object of a list of just two items, a text and an object
abbrev pub fields_of : Data → Option Data
fields_of (array (item (string kind) (item (object fields) no_items))) = Some (object fields)
fields_of other = None

-- a write cap that is not there may be null or empty
abbrev pub gives_write : Data → Bool
gives_write null = false
gives_write (boolean b) = true
gives_write (number n) = true
gives_write (string text) = not (length text == 0)
gives_write (array ds) = true
gives_write (object ms) = true

abbrev pub has_write : Option Data → Bool
has_write None = false
has_write (Some d) = gives_write d

-- an object's metadata, in their one spelling; `{}` where there are none
abbrev pub metadata_made : Option Data → Result (List ℕ) DirFault
metadata_made None = Ok (codes "{}")
metadata_made (Some d) =
    if is_some (as_object d)
    then (if has_float d then Err FractionalNumber else (if nat_le (depth d) 100 then Ok (compact_text d) else Err BadMetadata))
    else Err BadShape

abbrev pub with_fields : List ℕ → Data → List ℕ → Result Entry DirFault
with_fields name fields uri =
    then_make (λ cap. if has_write (get (codes "rw_uri") fields) then Err WriteCap
    else then_make (λ metadata. Ok (record { name = name; cap = cap; metadata = metadata })) (metadata_made (get (codes "metadata") fields)))
    (child_reading uri)

-- the entry of a name and its fields
unfoldable pub entry_of_fields : List ℕ → Data → Result Entry DirFault
entry_of_fields name fields =
    then_make (λ uri. if length name == 0 then Err BadName else with_fields name fields uri)
    (or_dir_fault BadShape (option_and_then as_str (get (codes "ro_uri") fields)))

-- the entry of a member
unfoldable pub entry_made : List ℕ → Data → Result Entry DirFault
entry_made key node = then_make (entry_of_fields (nfc_text key)) (or_dir_fault BadShape (fields_of node))

-- entries in order of their names, with one more at its place
abbrev pub inserted : Entry → List Entry → List Entry
inserted entry [] = entry ∷ []
inserted entry (other ∷ more) = if is_lt (slice_cmp nat_cmp entry.name other.name) then entry ∷ other ∷ more else other ∷ inserted entry more

-- the same, where its name doesn't stand already
unfoldable pub with_entry : List Entry → Entry → Result (List Entry) DirFault
with_entry entries entry = if is_some (child_named entry.name entries) then Err SameName else Ok (inserted entry entries)

-- those entries and the ones of the members
abbrev pub making_after : List Entry → Members → Result (List Entry) DirFault
making_after entries no_members = Ok entries
making_after entries (member key node more) = then_make (λ all. making_after all more) (then_make (with_entry entries) (entry_made key node))

-- the entries that children JSON names, or a cause why there are none
unfoldable pub making : List ℕ → Result (List Entry) DirFault
making json = then_make (λ d. then_make (making_after []) (or_dir_fault BadShape (as_object d))) (or_dir_fault NotJson (json_of json))

-- the children that JSON names, or none
unfoldable pub made : List ℕ → Option (List Entry)
made json = result_ok (making json)
