-- How far what is made of members is taken from the tree of their values; for private clauses.
use Rattle.std.specs.Prelude.{◌≡◌, ◌⊎◌, ℕ, suc, ◌<◌, List, length, codes, Option, Some, None, string_bytes}
use Rattle.std.specs.Str.{IsUtf8}
use Rattle.json.specs.Token.{Token}
use Rattle.json.specs.Json as json
use Rattle.json_stack.specs.Machine.{whole_value}
use Rattle.json_tree.specs.Writers.{IsWriting, parts_to_write}
use Rattle.serde_json.specs.Data.{Data, object, Members, no_members, member, put}
use Rattle.serde_json.specs.Find.{get_member}
use Rattle.serde_json.specs.Read.{of_members, max_depth}
use Rattle.serde_json.specs.View.{members_view}
use Rattle.serde_json.specs.Written.{compact_text}
use Rattle.children_reader.specs.Children.{fields_of}
use Rattle.children_reader.specs.Collected.{AreEntered, AreMembersRead}
use Rattle.children_reader.specs.Kept.{IsTextFieldAt, Outcome}
use Rattle.json_spelling.specs.Sound.{IsSound, MembersAreSound}
use Rattle.children_reader.specs.declared.taking.TakenChild.{TakenChild}
use Rattle.children_reader.specs.declared.taking.TakenOn.{TakenOn}
use Rattle.children_reader.specs.declared.taking.Taking.{Taking}

-- members, put in one after another
abbrev pub with_all : Members → Members → Members
with_all no_members before = before
with_all (member k d ms) before = with_all ms (put k d before)

-- the tokens are an object: the first of its members have these outcomes, and the others are left
pub record AreTakenBefore (ts : List Token) (found : List Outcome) (rest : Members) : Type 0 where
  pub parts : json.Members
  pub value : whole_value max_depth ts ≡ Some (json.object parts)
  pub sound : MembersAreSound rest
  pub entered : (before : Members) → (mid : Members) × AreEntered found before mid × (of_members parts before ≡ Some (with_all rest mid))

-- a child of that value, whose metadata are written
pub record IsTakenChild (child : TakenChild) (d : Data) : Type 0 where
  pub fields : Members
  pub metadata : Members
  pub node : fields_of d ≡ Some (object fields)
  pub ro_uri : IsTextFieldAt child.ro_uri (get_member (codes "ro_uri") fields)
  pub rw_uri : IsTextFieldAt child.rw_uri (get_member (codes "rw_uri") fields)
  pub found : get_member (codes "metadata") fields ≡ Some (object metadata)
  pub sound : IsSound (object metadata)
  pub utf8 : IsUtf8 (compact_text (object metadata))
  pub writing : IsWriting (object metadata) child.writer

-- the members that are left, that of the child first
abbrev pub AreYetToTake : Option TakenChild → Members → Members → Type 0
AreYetToTake None ms rest = rest ≡ ms
AreYetToTake (Some child) ms rest = (d : Data) × IsTakenChild child d × (rest ≡ member (string_bytes child.key) d ms)

-- what is made of the members of the object that the tokens are is taken so far
abbrev pub IsTakenFrom : List Token → Taking → Type 0
IsTakenFrom ts taking = (rest : Members) × AreTakenBefore ts taking.found.items rest × AreYetToTake taking.child (members_view taking.left.entries) rest

-- or all of it is
abbrev pub IsTakenOn : List Token → TakenOn → Type 0
IsTakenOn ts (TakenOn.Going taking) = IsTakenFrom ts taking
IsTakenOn ts (TakenOn.All found remains) = AreMembersRead found.items ts

-- ---- it comes to an end

-- the parts of a child's metadata that have yet to be written
abbrev pub child_parts : Option TakenChild → ℕ
child_parts None = 0
child_parts (Some child) = suc (parts_to_write child.writer)

-- fewer members are left, or as many and less of a child's metadata
abbrev pub HasLessToTake : Taking → Taking → Type 0
HasLessToTake old new = (length new.left.entries < length old.left.entries) ⊎ ((length new.left.entries ≡ length old.left.entries) × (child_parts new.child < child_parts old.child))

abbrev pub HasLessToTakeOn : Taking → TakenOn → Type 0
HasLessToTakeOn old (TakenOn.Going new) = HasLessToTake old new
HasLessToTakeOn old (TakenOn.All found remains) = (length old.left.entries ≡ 0) × (old.child ≡ None)
