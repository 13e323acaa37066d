-- The outcomes of members, judged in the order of their keys.
use Rattle.std.proofs.Common.{◌≡◌, ℕ, true, false, List, [], ◌∷◌, Option, is_some, Ok, Err, Some, None, IsUtf8, String, Global, Box, string_bytes, refl, ap, ◌∙◌, subst}
use Rattle.std.specs.BTreeMap.{insert_entry, is_at}
use Rattle.std.specs.Map.{lookup}
use Rattle.std.specs.String.{string_cmp}
use Rattle.json.specs.Lex.{tokens}
use Rattle.serde_json.specs.Data.{Data, object, Members, no_members, member}
use Rattle.serde_json.specs.Read.{read}
use Rattle.dir_codec.specs.Entries.{IsEntry, AreEntriesAbove}
use Rattle.children_reader.specs.Children.{making_after, making, then_make, with_entry}
use Rattle.children_reader.specs.Kept.{Outcome, AreOutcomes, AreBefore, IsNoObject}
use Rattle.json_spelling.specs.Metadata.{json_of}
use Rattle.children_reader.specs.Named.{entry_of_child, entries_of}
use Rattle.json_spelling.specs.Spelled.{data_of}
use Rattle.children_reader.specs.declared.child.Child.{Child}
use Rattle.dir_codec.specs.declared.fault.DirFault.{DirFault}
use Rattle.dir_codec.specs.declared.fault.DirFault.TheVariants.{Torn, NotSorted, BadName, BadCap, NotImmutable, WriteCap, BadMetadata, NotJson, BadShape, SameName, FractionalNumber, NoMemory}
use Rattle.json_spelling.proofs.Json.{json_read, json_refused}
use Rattle.children_reader.proofs.Making.{make_next, make_fault, same_name, new_name, new_above, no_json, no_object, of_members}
use Rattle.dir_codec.proofs.Names.{name_above}

-- at the end
ends_at : (children : List (String Global × Child)) (ms rest : Members) → AreOutcomes [] rest → making_after [] ms ≡ making_after (entries_of children) rest → making_after [] ms ≡ Ok (entries_of children)
ends_at children ms no_members outcomes made = made
ends_at children ms (member k d rest) outcomes made = absurd outcomes

pub all_made : (children : List (String Global × Child)) (left : List Outcome) (ms : Members) → left ≡ [] → AreBefore children left ms → making_after [] ms ≡ Ok (entries_of children)
all_made children left ms none before = ends_at children ms before.rest (subst (λ es. AreOutcomes es before.rest) none before.outcomes) before.made

-- at a fault
fault_at : (children : List (String Global × Child)) (key : String Global) (fault : DirFault) (more : List Outcome) (ms rest : Members) → AreOutcomes ((key, Err fault) ∷ more) rest → making_after [] ms ≡ making_after (entries_of children) rest → making_after [] ms ≡ Err fault
fault_at children key fault more ms no_members outcomes made = absurd outcomes
fault_at children key fault more ms (member k d rest) outcomes made = made ∙ ap (λ r. then_make (λ all. making_after all rest) (then_make (with_entry (entries_of children)) r)) outcomes.1

pub fault_made : (children : List (String Global × Child)) (left : List Outcome) (key : String Global) (fault : DirFault) (more : List Outcome) (ms : Members) → left ≡ (key, Err fault) ∷ more → AreBefore children left ms → making_after [] ms ≡ Err fault
fault_made children left key fault more ms turn before = fault_at children key fault more ms before.rest (subst (λ es. AreOutcomes es before.rest) turn before.outcomes) before.made

-- at a name that stands already
same_at : (children : List (String Global × Child)) (key name : String Global) (child : Child) (boxed : Box (String Global × Child) Global) (more : List Outcome) (ms rest : Members) → AreOutcomes ((key, Ok boxed) ∷ more) rest → boxed.value ≡ (name, child) → making_after [] ms ≡ making_after (entries_of children) rest
    → with_entry (entries_of children) (entry_of_child (name, child)) ≡ Err SameName → making_after [] ms ≡ Err SameName
same_at children key name child boxed more ms no_members outcomes holds made same = absurd outcomes
same_at children key name child boxed more ms (member k d rest) outcomes holds made same = made ∙ make_fault (entries_of children) k d rest (entry_of_child (name, child)) SameName (outcomes.1.0 ∙ ap (λ n. Ok (entry_of_child n)) holds) same

pub same_made : (children : List (String Global × Child)) (left : List Outcome) (key name : String Global) (child : Child) (boxed : Box (String Global × Child) Global) (more : List Outcome) (old : Option Child) (ms : Members) → left ≡ (key, Ok boxed) ∷ more → boxed.value ≡ (name, child)
    → old ≡ lookup (is_at (string_cmp name)) children → is_some old ≡ true → AreBefore children left ms → making_after [] ms ≡ Err SameName
same_made children left key name child boxed more old ms turn holds is some before =
    same_at children key name child boxed more ms before.rest (subst (λ es. AreOutcomes es before.rest) turn before.outcomes) holds before.made (same_name name child children old is some)

-- at a new name
new_at : (children new : List (String Global × Child)) (key name : String Global) (child : Child) (boxed : Box (String Global × Child) Global) (more : List Outcome) (old : Option Child) (ms rest : Members) → AreOutcomes ((key, Ok boxed) ∷ more) rest → boxed.value ≡ (name, child)
    → making_after [] ms ≡ making_after (entries_of children) rest → AreEntriesAbove [] (entries_of children) → old ≡ lookup (is_at (string_cmp name)) children → is_some old ≡ false → new ≡ insert_entry string_cmp children name child → AreBefore new more ms
new_at children new key name child boxed more old ms no_members outcomes holds made kept is none put = absurd outcomes
new_at children new key name child boxed more old ms (member k d rest) outcomes holds made kept is none put = record {
  rest = rest;
  outcomes = outcomes.2;
  made = made ∙ make_next (entries_of children) k d rest (entry_of_child (name, child)) (entries_of new) (outcomes.1.0 ∙ ap (λ n. Ok (entry_of_child n)) holds) (new_name name child children new old is none put);
  kept =
      let entry : IsEntry (entry_of_child (name, child)) = subst (λ n. IsEntry (entry_of_child n)) holds outcomes.1.1 in
      new_above name child children new old is none put kept entry (name_above (string_bytes name) entry.name);
}

pub new_made : (children new : List (String Global × Child)) (left : List Outcome) (key name : String Global) (child : Child) (boxed : Box (String Global × Child) Global) (more : List Outcome) (old : Option Child) (ms : Members) → left ≡ (key, Ok boxed) ∷ more → boxed.value ≡ (name, child)
    → old ≡ lookup (is_at (string_cmp name)) children → is_some old ≡ false → new ≡ insert_entry string_cmp children name child → AreBefore children left ms → AreBefore new more ms
new_made children new left key name child boxed more old ms turn holds is none put before =
    new_at children new key name child boxed more old ms before.rest (subst (λ es. AreOutcomes es before.rest) turn before.outcomes) holds before.made before.kept is none put

-- ---- the whole

-- bytes that are no text
pub no_text : (json : List ℕ) → (IsUtf8 json → ⊥) → making json ≡ Err NotJson
no_text json none = no_json json (json_refused json (λ utf8. absurd (none utf8)))

-- what the tokens of a text are is the JSON of its bytes
text_read : (json text : List ℕ) (d : Data) → text ≡ json → IsUtf8 json → data_of (tokens text) ≡ Some d → json_of json ≡ Some d
text_read json text d same utf8 is = json_read json d utf8 (subst (λ s. read s ≡ Some d) same is)

-- a text that is an object
pub of_object : (json text : List ℕ) (ms : Members) → text ≡ json → IsUtf8 json → data_of (tokens text) ≡ Some (object ms) → making json ≡ making_after [] ms
of_object json text ms same utf8 is = of_members json (object ms) ms (text_read json text (object ms) same utf8 is) refl

-- a text that is none
pub text_refused : (fault : DirFault) (json text : List ℕ) → text ≡ json → IsUtf8 json → IsNoObject fault (tokens text) → making json ≡ Err fault
text_refused NotJson json text same utf8 none = no_json json (json_refused json (λ _. subst (λ s. read s ≡ None) same none))
text_refused BadShape json text same utf8 none = no_object json none.0 (text_read json text none.0 same utf8 none.1) none.2
text_refused Torn json text same utf8 none = absurd none
text_refused NotSorted json text same utf8 none = absurd none
text_refused BadName json text same utf8 none = absurd none
text_refused BadCap json text same utf8 none = absurd none
text_refused NotImmutable json text same utf8 none = absurd none
text_refused WriteCap json text same utf8 none = absurd none
text_refused BadMetadata json text same utf8 none = absurd none
text_refused SameName json text same utf8 none = absurd none
text_refused FractionalNumber json text same utf8 none = absurd none
text_refused NoMemory json text same utf8 none = absurd none
