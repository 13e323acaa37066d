-- Children JSON that is read some members at a time; for private clauses.
use Rattle.std.specs.Prelude.{◌≡◌, ℕ, ◌-◌, ◌<◌, ◌≤◌, List, [], ◌∷◌, length, take, drop, Option, Some, None, string_bytes}
use Rattle.std.specs.Str.{IsUtf8}
use Rattle.json.specs.Ascii as ascii
use Rattle.json.specs.Token.{Token}
use Rattle.json.specs.Lex.{tokens}
use Rattle.json.specs.Json as json
use Rattle.json_stack.specs.Machine.{whole_value}
use Rattle.json_members.specs.MemberCuts.{IsMemberCut, front_object}
use Rattle.json_members.specs.JoinedObjects.{joined_objects}
use Rattle.serde_json.specs.Data.{Data, Members, put}
use Rattle.serde_json.specs.Read.{of_members, max_depth}
use Rattle.children_reader.specs.Kept.{Outcome, IsOutcome}

-- what stands behind a place, as the text of an object
abbrev pub object_behind : ℕ → List ℕ → List ℕ
object_behind at text = ascii.open_brace ∷ drop at text

-- the place stands behind the brace that opens the object which the text begins with
pub record IsBehindBrace (text : List ℕ) (at : ℕ) : Type 0 where
  pub within : at ≤ length text
  pub utf8 : IsUtf8 (take at text)
  pub same : tokens text ≡ tokens (object_behind at text)

-- the part is what stands at a place up to a cut, or the rest
abbrev pub IsPartUpTo : List ℕ → ℕ → List ℕ → Option ℕ → Type 0
IsPartUpTo text at part None = part ≡ object_behind at text
IsPartUpTo text at part (Some next) = (at < next) × (next ≤ length text) × IsMemberCut (object_behind at text) (next - at) × (part ≡ front_object (object_behind at text) (next - at))

-- outcomes, put in one after another, are of members that were put in so
abbrev pub AreEntered : List Outcome → Members → Members → Type 0
AreEntered [] before after = before ≡ after
AreEntered (e ∷ es) before after = (d : Data) × IsOutcome (string_bytes e.0) d e.1 × AreEntered es (put (string_bytes e.0) d before) after

-- the members have these outcomes, whatever members were there before
abbrev pub AreMembersMade : List Outcome → json.Members → Type 0
AreMembersMade es parts = (before : Members) → (after : Members) × (of_members parts before ≡ Some after) × AreEntered es before after

-- the tokens are an object whose members have these outcomes
pub record AreMembersRead (outcomes : List Outcome) (ts : List Token) : Type 0 where
  pub parts : json.Members
  pub value : whole_value max_depth ts ≡ Some (json.object parts)
  pub put : AreMembersMade outcomes parts

-- members, and then those of a value, where both have some
abbrev pub with_before : json.Members → Option json.Json → Option json.Json
with_before json.no_members rest = rest
with_before (json.member k j ms) rest = joined_objects (Some (json.object (json.member k j ms))) rest
