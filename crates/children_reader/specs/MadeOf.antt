-- What children JSON makes, said without an order of work: an entry of each member of the object, one each, in the order
-- of their names. Where it makes nothing: the first member that is at fault.
use Rattle.std.specs.Prelude.{◌≡◌, ◌≢◌, ◌⊎◌, ⊤, ℕ, ◌<◌, true, false, List, [], ◌∷◌, ◌++◌, codes, Any, IsPermutation, Option, Some, None, is_some}
use Rattle.std.specs.List.{AllZip}
use Rattle.serde_json.specs.Data.{Data, null, string, array, object, no_items, item, Members, no_members, member, depth}
use Rattle.serde_json.specs.Find.{get_member, as_object}
use Rattle.serde_json.specs.Written.{has_float, compact_text}
use Rattle.caps.specs.CapTexts.{IsCapText}
use Rattle.caps.specs.declared.cap.Cap.{Cap}
use Rattle.dir_codec.specs.Names.{IsAbove, nfc_text}
use Rattle.json_spelling.specs.Metadata.{json_of, is_metadata}
use Rattle.dir_codec.specs.Entries.{is_child_cap}
use Rattle.dir_codec.specs.Faults.{IsNoChild}
use Rattle.dir_codec.specs.declared.entry.Entry.{Entry}
use Rattle.dir_codec.specs.declared.fault.DirFault.{DirFault}
use Rattle.dir_codec.specs.declared.fault.DirFault.TheVariants.{BadName, BadCap, NotImmutable, WriteCap, BadMetadata, NotJson, BadShape, SameName, FractionalNumber}

-- the members of an object, in the order of their keys
abbrev pub members_listed : Members → List (List ℕ × Data)
members_listed no_members = []
members_listed (member key node more) = (key, node) ∷ members_listed more

-- ---- a member: `key: [kind, fields]`

-- it is a list of just two items, a text and an object, and of its fields `ro_uri` is a text
pub record HasUri (node : Data) (fields : Members) (uri : List ℕ) : Type 0 where
  pub kind : List ℕ
  pub node_is : node ≡ array (item (string kind) (item (object fields) no_items))
  pub uri_is : get_member (codes "ro_uri") fields ≡ Some (string uri)

-- besides, its key in NFC is not empty, and `ro_uri` is the text of a cap that a child may have
pub record HasCap (key : List ℕ) (node : Data) (fields : Members) (cap : Cap) : Type 0 where
  pub uri : List ℕ
  pub has : HasUri node fields uri
  pub named : nfc_text key ≢ []
  pub is : IsCapText cap uri
  pub child : is_child_cap cap ≡ true

-- no write cap: there is none, or null, or an empty text
abbrev pub IsNoWrite : Option Data → Type 0
IsNoWrite write = (write ≡ None) ⊎ ((write ≡ Some null) ⊎ (write ≡ Some (string [])))

-- metadata and their text: `{}` where there are none
abbrev pub IsMetadataText : Option Data → List ℕ → Type 0
IsMetadataText None text = text ≡ codes "{}"
IsMetadataText (Some d) text = (is_metadata d ≡ true) × (text ≡ compact_text d)

-- the entry of a member
pub record IsEntryOf (key : List ℕ) (node : Data) (entry : Entry) : Type 0 where
  pub fields : Members
  pub name : entry.name ≡ nfc_text key
  pub cap : HasCap key node fields entry.cap
  pub no_write : IsNoWrite (get_member (codes "rw_uri") fields)
  pub metadata : IsMetadataText (get_member (codes "metadata") fields) entry.metadata

-- a member with nothing said against its cap, and that has these metadata
pub record HasMetadata (key : List ℕ) (node d : Data) : Type 0 where
  pub fields : Members
  pub cap : Cap
  pub has : HasCap key node fields cap
  pub no_write : IsNoWrite (get_member (codes "rw_uri") fields)
  pub is : get_member (codes "metadata") fields ≡ Some d

-- what is said against a member alone: each fault holds where none before it does, in the order shape, name, cap, write
-- cap, metadata
abbrev pub IsMemberFault : DirFault → List ℕ → Data → Type 0
IsMemberFault BadShape key node =
    ((fields : Members) (uri : List ℕ) → ¬ (HasUri node fields uri)) ⊎ ((d : Data) × HasMetadata key node d × (as_object d ≡ None))
IsMemberFault BadName key node = (fields : Members) × (uri : List ℕ) × HasUri node fields uri × (nfc_text key ≡ [])
IsMemberFault BadCap key node =
    (fields : Members) × (uri : List ℕ) × HasUri node fields uri × (nfc_text key ≢ []) × IsNoChild BadCap uri
IsMemberFault NotImmutable key node =
    (fields : Members) × (uri : List ℕ) × HasUri node fields uri × (nfc_text key ≢ []) × IsNoChild NotImmutable uri
IsMemberFault WriteCap key node =
    (fields : Members) × (cap : Cap) × HasCap key node fields cap × ¬ (IsNoWrite (get_member (codes "rw_uri") fields))
IsMemberFault FractionalNumber key node =
    (d : Data) × HasMetadata key node d × (is_some (as_object d) ≡ true) × (has_float d ≡ true)
IsMemberFault BadMetadata key node =
    (d : Data) × HasMetadata key node d × (is_some (as_object d) ≡ true) × (has_float d ≡ false) × (100 < depth d)
IsMemberFault other key node = ⊥

-- ---- the members

-- entries in strictly rising order of their names, all above a name
abbrev pub RiseAbove : List ℕ → List Entry → Type 0
RiseAbove name [] = ⊤
RiseAbove name (entry ∷ more) = IsAbove entry.name name × RiseAbove entry.name more

-- the entries are those of the members, one each, in the order of their names
pub record AreOfMembers (entries : List Entry) (members : List (List ℕ × Data)) : Type 0 where
  pub found : List Entry
  pub each : AllZip (λ m entry. IsEntryOf m.0 m.1 entry) members found
  pub same : IsPermutation found entries
  pub rise : RiseAbove [] entries

-- what is said against a member that stands after those entries
abbrev pub IsFaultAfter : DirFault → List Entry → List ℕ → Data → Type 0
IsFaultAfter SameName entries key node = (entry : Entry) × IsEntryOf key node entry × Any (λ other. other.name ≡ entry.name) entries
IsFaultAfter other entries key node = IsMemberFault other key node

-- members without a fault stand before the one that has it
pub record RefusesMembers (fault : DirFault) (members : List (List ℕ × Data)) : Type 0 where
  pub before : List (List ℕ × Data)
  pub key : List ℕ
  pub node : Data
  pub after : List (List ℕ × Data)
  pub are : members ≡ before ++ ((key, node) ∷ after)
  pub entries : List Entry
  pub made : AreOfMembers entries before
  pub first : IsFaultAfter fault entries key node

-- ---- the whole

-- the JSON is an object, and the entries are those of its members
abbrev pub AreMadeOf : List Entry → List ℕ → Type 0
AreMadeOf entries json = (members : Members) × (json_of json ≡ Some (object members)) × AreOfMembers entries (members_listed members)

-- why the JSON makes nothing
abbrev pub RefusesJson : DirFault → List ℕ → Type 0
RefusesJson NotJson json = json_of json ≡ None
RefusesJson BadShape json =
    ((d : Data) × (json_of json ≡ Some d) × (as_object d ≡ None)) ⊎ ((members : Members) × (json_of json ≡ Some (object members)) × RefusesMembers BadShape (members_listed members))
RefusesJson other json = (members : Members) × (json_of json ≡ Some (object members)) × RefusesMembers other (members_listed members)
