-- Children JSON of which parts were read.
use Rattle.std.proofs.Common.{◌≡◌, ◌≢◌, ℕ, ◌-◌, List, [], Option, Some, None, option_and_then, option_map, Err, IsUtf8, refl, sym, ap, ◌∙◌, subst}
use Rattle.json.specs.Token.{Token, begin_object}
use Rattle.json.specs.Lex.{tokens}
use Rattle.json.specs.Json as json
use Rattle.json_stack.specs.Machine.{whole_value}
use Rattle.json_members.specs.MemberCuts.{IsMemberCut, first_token, front_object, back_object}
use Rattle.json_members.specs.JoinedObjects.{members_before, joined_objects}
use Rattle.serde_json.specs.Data.{object, Members, no_members}
use Rattle.serde_json.specs.Read.{of_members, max_depth}
use Rattle.children_reader.specs.Children.{making}
use Rattle.children_reader.specs.Collected.{object_behind, IsBehindBrace, IsPartUpTo, AreEntered, AreMembersRead, with_before}
use Rattle.children_reader.specs.Collecting.{IsCollecting}
use Rattle.children_reader.specs.Piecewise.{HasNoObjectBehind}
use Rattle.children_reader.specs.Readings.{IsReadingAt}
use Rattle.children_reader.specs.Kept.{Outcome, AreOutcomes}
use Rattle.json_spelling.specs.Metadata.{json_of}
use Rattle.children_reader.specs.declared.collecting.Collecting.{Collecting}
use Rattle.dir_codec.specs.declared.fault.DirFault.TheVariants.{NotJson}
use Rattle.children_reader.proofs.Braces.{FirstLaw}
use Rattle.children_reader.proofs.Joining.{TurnLaw, of_whole, with_part, with_last, empty_part, empty_last, made_before, made_of_none, none_kept, some_kept, some_put, no_front, none_with}
use Rattle.json_spelling.proofs.Json.{json_read, json_refused}
use Rattle.children_reader.proofs.Making.{no_json}
use Rattle.children_reader.proofs.PartTexts.{rest_begins, behind_cut, all_text, next_text, IsTextPart}

-- the value that a text is
abbrev value_of : List ℕ → Option json.Json
value_of text = whole_value max_depth (tokens text)

-- what is used of objects that are cut
pub record CutLaws : Type 0 where
  pub first : FirstLaw
  pub turn : TurnLaw
  pub value : (text : List ℕ) (at : ℕ) → IsMemberCut text at → first_token (tokens text) ≡ Some begin_object
      → whole_value max_depth (tokens text) ≡ joined_objects (whole_value max_depth (tokens (front_object text at))) (whole_value max_depth (tokens (back_object text at)))

cut_value : CutLaws → (bytes text : List ℕ) (at next : ℕ) → IsPartUpTo bytes at text (Some next) → value_of (object_behind at bytes) ≡ joined_objects (value_of text) (value_of (object_behind next bytes))
cut_value laws bytes text at next part =
    let whole = object_behind at bytes in
    laws.value whole (next - at) part.2 (rest_begins laws.first bytes at) ∙ ap (λ t. joined_objects (value_of t) (value_of (back_object whole (next - at)))) (sym part.3)
    ∙ ap (λ t. joined_objects (value_of text) (value_of t)) (behind_cut bytes at next part.0)

-- ---- whether a part has members

some_parts : (found : List Outcome) (ts : List Token) (is : AreMembersRead found ts) → found ≢ [] → is.parts ≢ json.no_members
some_parts found ts is some none =
    let put = is.put no_members in
    let made : Some no_members ≡ Some put.0 = subst (λ ms. of_members ms no_members ≡ Some put.0) none put.1 in
    let same : put.0 ≡ no_members = cc in
    some_put found some (subst (AreEntered found no_members) same put.2)

no_parts : (found : List Outcome) (ts : List Token) (is : AreMembersRead found ts) → found ≡ [] → is.parts ≡ json.no_members
no_parts found ts is none =
    let put = is.put no_members in
    let same : no_members ≡ put.0 = subst (λ es. AreEntered es no_members put.0) none put.2 in
    made_of_none is.parts no_members (put.1 ∙ ap (λ ms. Some ms) (sym same))

no_value : (found : List Outcome) (ts : List Token) → AreMembersRead found ts → found ≡ [] → whole_value max_depth ts ≡ Some (json.object json.no_members)
no_value found ts is none = is.value ∙ ap (λ ms. Some (json.object ms)) (no_parts found ts is none)

-- ---- before the first part

pub none_before : (bytes : List ℕ) (g : Collecting) → g.outcomes.entries ≡ [] → g.reading ≡ None → IsBehindBrace bytes g.at → IsCollecting bytes g
none_before bytes g empty none start = record {
  parts = json.no_members;
  members = no_members;
  within = start.within;
  utf8 = start.utf8;
  value = ap (whole_value max_depth) start.same;
  read = refl;
  outcomes = subst (λ es. AreOutcomes es no_members) (sym empty) tt;
  reading = subst (IsReadingAt bytes g.at) (sym none) tt;
}

-- ---- one part more

-- what becomes of outcomes where others are put in
abbrev pub IsPutIn : List Outcome → List Outcome → List Outcome → Type 0
IsPutIn old new found = (before after : Members) → AreOutcomes old before → AreEntered found before after → AreOutcomes new after

pub more_read : CutLaws → (bytes text : List ℕ) (g next : Collecting) (found : List Outcome) → next.reading ≡ None → IsCollecting bytes g → IsTextPart bytes g.at text (Some next.at) → AreMembersRead found (tokens text) → found ≢ []
    → IsPutIn g.outcomes.entries next.outcomes.entries found → IsCollecting bytes next
more_read laws bytes text g next found none before part is some put_in =
    let put = is.put before.members in
    let rest = value_of (object_behind next.at bytes) in
    record {
      parts = members_before before.parts is.parts;
      members = put.0;
      within = part.part.1;
      utf8 = next_text bytes text g.at next.at before.utf8 part.part part.utf8;
      value =
          before.value ∙ ap (with_before before.parts) (cut_value laws bytes text g.at next.at part.part ∙ ap (λ o. joined_objects o rest) is.value)
          ∙ with_part laws.turn before.parts is.parts rest (some_parts found (tokens text) is some);
      read = made_before before.parts is.parts no_members ∙ ap (option_and_then (of_members is.parts)) before.read ∙ put.1;
      outcomes = put_in before.members put.0 before.outcomes put.2;
      reading = subst (IsReadingAt bytes next.at) (sym none) tt;
    }

-- what is known when all was read
abbrev pub AreAll : List ℕ → List Outcome → Type 0
AreAll bytes outcomes = (ms : Members) × (json_of bytes ≡ Some (object ms)) × AreOutcomes outcomes ms

pub all_read : (bytes text : List ℕ) (g : Collecting) (found outcomes : List Outcome) → IsCollecting bytes g → IsTextPart bytes g.at text None → AreMembersRead found (tokens text) → found ≢ []
    → IsPutIn g.outcomes.entries outcomes found → AreAll bytes outcomes
all_read bytes text g found outcomes before part is some put_in =
    let put = is.put before.members in
    let value : value_of bytes ≡ Some (json.object (members_before before.parts is.parts)) =
    before.value ∙ ap (with_before before.parts) (ap value_of (sym part.part) ∙ is.value) ∙ with_last before.parts is.parts (some_parts found (tokens text) is some) in
    let made = made_before before.parts is.parts no_members ∙ ap (option_and_then (of_members is.parts)) before.read ∙ put.1 in
    (put.0, json_read bytes (object put.0) (all_text bytes text g.at before.utf8 part.part part.utf8) (ap of_whole value ∙ ap (option_map object) made), put_in before.members put.0 before.outcomes put.2)

-- the same where nothing was read before
pub whole_read : (bytes : List ℕ) (found outcomes : List Outcome) → IsUtf8 bytes → AreMembersRead found (tokens bytes) → IsPutIn [] outcomes found → AreAll bytes outcomes
whole_read bytes found outcomes utf8 is put_in =
    let put = is.put no_members in
    (put.0, json_read bytes (object put.0) utf8 (ap of_whole is.value ∙ ap (option_map object) put.1), put_in no_members put.0 tt put.2)

-- the object has no members
pub none_read : (bytes text : List ℕ) (g : Collecting) (found : List Outcome) → IsCollecting bytes g → IsTextPart bytes g.at text None → AreMembersRead found (tokens text) → found ≡ [] → g.outcomes.entries ≡ []
    → AreAll bytes g.outcomes.entries
none_read bytes text g found before part is none empty =
    let same = none_kept g.outcomes.entries before.members empty before.outcomes in
    let first = made_of_none before.parts no_members (before.read ∙ ap (λ ms. Some ms) same) in
    let value : value_of bytes ≡ Some (json.object json.no_members) =
    before.value ∙ ap (λ ms. with_before ms (value_of (object_behind g.at bytes))) first ∙ ap value_of (sym part.part) ∙ no_value found (tokens text) is none in
    (no_members, json_read bytes (object no_members) (all_text bytes text g.at before.utf8 part.part part.utf8) (ap of_whole value), subst (AreOutcomes g.outcomes.entries) same before.outcomes)

-- ---- refusals

refused : (bytes : List ℕ) → of_whole (value_of bytes) ≡ None → making bytes ≡ Err NotJson
refused bytes none = no_json bytes (json_refused bytes (λ _. none))

-- what stands behind the members that were read makes no object
pub behind_refused : (bytes : List ℕ) (g : Collecting) → IsCollecting bytes g → HasNoObjectBehind bytes g.at → making bytes ≡ Err NotJson
behind_refused bytes g before none = no_json bytes (json_refused bytes (λ utf8. ap of_whole before.value ∙ none_with before.parts (value_of (object_behind g.at bytes)) (none utf8)))

-- a part of which nothing is made
pub nothing_behind : CutLaws → (bytes text : List ℕ) (at : ℕ) (next : Option ℕ) → IsPartUpTo bytes at text next → of_whole (value_of text) ≡ None → of_whole (value_of (object_behind at bytes)) ≡ None
nothing_behind laws bytes text at None part none = ap (λ t. of_whole (value_of t)) (sym part) ∙ none
nothing_behind laws bytes text at (Some next) part none = ap of_whole (cut_value laws bytes text at next part) ∙ no_front (value_of text) (value_of (object_behind next bytes)) none

-- a part with no members where there are others
nothing_there : CutLaws → (bytes text : List ℕ) (g : Collecting) (next : Option ℕ) (before : IsCollecting bytes g) → IsPartUpTo bytes g.at text next → value_of text ≡ Some (json.object json.no_members)
    → (next ≡ None → g.outcomes.entries ≢ []) → with_before before.parts (value_of (object_behind g.at bytes)) ≡ None
nothing_there laws bytes text g None before part is some =
    let apart = λ (none : before.parts ≡ json.no_members).
    let made : Some no_members ≡ Some before.members = subst (λ ms. of_members ms no_members ≡ Some before.members) none before.read in
    let same : before.members ≡ no_members = cc in
    some_kept g.outcomes.entries before.members (some refl) before.outcomes same in
    ap (with_before before.parts) (ap value_of (sym part) ∙ is) ∙ empty_last before.parts apart
nothing_there laws bytes text g (Some next) before part is some =
    let rest = value_of (object_behind next bytes) in
    ap (with_before before.parts) (cut_value laws bytes text g.at next part ∙ ap (λ o. joined_objects o rest) is) ∙ empty_part before.parts rest

pub empty_refused : CutLaws → (bytes text : List ℕ) (g : Collecting) (next : Option ℕ) (found : List Outcome) → IsCollecting bytes g → IsTextPart bytes g.at text next → AreMembersRead found (tokens text) → found ≡ []
    → (next ≡ None → g.outcomes.entries ≢ []) → making bytes ≡ Err NotJson
empty_refused laws bytes text g next found before part is none some =
    refused bytes (ap of_whole (before.value ∙ nothing_there laws bytes text g next before part.part (no_value found (tokens text) is none) some))
