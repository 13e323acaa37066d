-- What the reading of children JSON keeps of it; for private clauses.
use Rattle.std.specs.Prelude.{◌≡◌, ℕ, List, [], ⊤, codes, true, Option, Some, None, Result, Ok, Err, String, string_bytes, Box}
use Rattle.std.specs.declared.alloc.Global.{Global}
use Rattle.json.specs.Token.{Token}
use Rattle.serde_json.specs.Data.{Data, null, string, object, Members}
use Rattle.serde_json.specs.Find.{get_member, as_str, as_object}
use Rattle.json_spelling.specs.Sound.{IsSound}
use Rattle.dir_codec.specs.Entries.{IsEntry, AreEntriesAbove}
use Rattle.children_reader.specs.Children.{fields_of, gives_write, entry_made, making_after}
use Rattle.children_reader.specs.Named.{entry_of_child, entries_of}
use Rattle.json_spelling.specs.Spelled.{data_of, AreAt, IsSpelled}
use Rattle.children_reader.specs.declared.child.Child.{Child}
use Rattle.children_reader.specs.declared.fields.Field.{Field}
use Rattle.children_reader.specs.declared.fields.Fields.{Fields}
use Rattle.dir_codec.specs.declared.fault.DirFault.{DirFault}
use Rattle.dir_codec.specs.declared.fault.DirFault.TheVariants.{NotJson, BadShape}

-- the value that a field was
abbrev pub IsField : Field → Data → Type 0
IsField Field.Null d = d ≡ null
IsField (Field.Text text) d = d ≡ string (string_bytes text)
IsField (Field.Object spelled) d = (ms : Members) × (d ≡ object ms) × IsSpelled spelled d × IsSound d
IsField Field.Other d = (as_str d ≡ None) × (as_object d ≡ None) × (gives_write d ≡ true)

-- the same where there may be none
abbrev pub IsFieldAt : Option Field → Option Data → Type 0
IsFieldAt None None = ⊤
IsFieldAt None (Some d) = ⊥
IsFieldAt (Some field) None = ⊥
IsFieldAt (Some field) (Some d) = IsField field d

-- the value that a field was, as far as a text is concerned
abbrev pub IsTextField : Field → Data → Type 0
IsTextField Field.Null d = d ≡ null
IsTextField (Field.Text text) d = d ≡ string (string_bytes text)
IsTextField (Field.Object spelled) d = (as_str d ≡ None) × (gives_write d ≡ true)
IsTextField Field.Other d = (as_str d ≡ None) × (gives_write d ≡ true)

-- the same where there may be none
abbrev pub IsTextFieldAt : Option Field → Option Data → Type 0
IsTextFieldAt None None = ⊤
IsTextFieldAt None (Some d) = ⊥
IsTextFieldAt (Some field) None = ⊥
IsTextFieldAt (Some field) (Some d) = IsTextField field d

-- the members that the fields of a child were
pub record AreChildFields (fields : Fields) (ms : Members) : Type 0 where
  pub ro_uri : IsTextFieldAt fields.ro_uri (get_member (codes "ro_uri") ms)
  pub rw_uri : IsTextFieldAt fields.rw_uri (get_member (codes "rw_uri") ms)
  pub metadata : IsFieldAt fields.metadata (get_member (codes "metadata") ms)

-- the fields of an object, None of another value
abbrev pub IsObject : Option Fields → Data → Type 0
IsObject None d = as_object d ≡ None
IsObject (Some fields) d = (ms : Members) × (d ≡ object ms) × AreChildFields fields ms

-- the fields of a list of just two items, a text and an object, None of another value
abbrev pub IsChildNode : Option Fields → Data → Type 0
IsChildNode None d = fields_of d ≡ None
IsChildNode (Some fields) d = (ms : Members) × (fields_of d ≡ Some (object ms)) × AreChildFields fields ms

-- what was made of a member: its name and child, or a fault
abbrev pub MemberOutcome : Type 0
MemberOutcome = Result (Box (String Global × Child) Global) DirFault

-- the key of a member, and that
abbrev pub Outcome : Type 0
Outcome = String Global × MemberOutcome

-- what was made of a member
abbrev pub IsOutcome : List ℕ → Data → MemberOutcome → Type 0
IsOutcome key d (Ok named) = (entry_made key d ≡ Ok (entry_of_child named.value)) × IsEntry (entry_of_child named.value)
IsOutcome key d (Err fault) = entry_made key d ≡ Err fault

abbrev pub AreOutcomes : List Outcome → Members → Type 0
AreOutcomes es ms = AreAt IsOutcome es ms

-- the children are those of the first members, and the outcomes of the others are left
pub record AreBefore (children : List (String Global × Child)) (left : List Outcome) (ms : Members) : Type 0 where
  pub rest : Members
  pub outcomes : AreOutcomes left rest
  pub made : making_after [] ms ≡ making_after (entries_of children) rest
  pub kept : AreEntriesAbove [] (entries_of children)

-- why the tokens are no object
abbrev pub IsNoObject : DirFault → List Token → Type 0
IsNoObject NotJson ts = data_of ts ≡ None
IsNoObject BadShape ts = (d : Data) × (data_of ts ≡ Some d) × (as_object d ≡ None)
IsNoObject other ts = ⊥
