-- Outcomes in the order of the text, and the members that were put in one after another.
use Rattle.std.proofs.Common.{◌≡◌, ◌≢◌, ℕ, List, [], ◌∷◌, ◌++◌, length, false, Option, Some, None, option_map, option_and_then, String, Global, string_bytes, refl, sym, ap, subst, ◌∙◌, arith}
use Rattle.json.specs.Token.{Token}
use Rattle.json.specs.Json as json
use Rattle.json.specs.Json.{value, members, parse_map, if_last}
use Rattle.json.proofs.Grammar.{value-begin_object}
use Rattle.json_members.specs.MemberCuts.{first_token}
use Rattle.serde_json.specs.Data.{Data, Members, no_members, put}
use Rattle.serde_json.specs.Read.{of_members, converted}
use Rattle.children_reader.specs.Collected.{AreEntered, AreMembersRead}
use Rattle.children_reader.specs.Kept.{MemberOutcome, Outcome, IsOutcome}
use Rattle.json_spelling.specs.Spelled.{begins_object}
use Rattle.json_spelling.proofs.ReadData.{from_json}

put_last : (es : List Outcome) (before after : Members) (k : String Global) (o : MemberOutcome) (d : Data) → AreEntered es before after → IsOutcome (string_bytes k) d o
    → AreEntered (es ++ ((k, o) ∷ [])) before (put (string_bytes k) d after)
put_last [] before after k o d are is = (d, is, ap (put (string_bytes k) d) are)
put_last (e ∷ es) before after k o d are is = (are.0, are.1, put_last es (put (string_bytes e.0) are.0 before) after k o d are.2 is)

-- one more outcome, of the member that goes in last
pub put_next : (es next : List Outcome) (before after : Members) (k : String Global) (name : List ℕ) (o : MemberOutcome) (d : Data) → next ≡ es ++ ((k, o) ∷ []) → string_bytes k ≡ name
    → IsOutcome name d o → AreEntered es before after → AreEntered next before (put name d after)
put_next es next before after k name o d pushed copied is are =
    let last = put_last es before after k o d are (subst (λ n. IsOutcome n d o) (sym copied) is) in
    subst (λ xs. AreEntered xs before (put name d after)) (sym pushed) (subst (λ n. AreEntered (es ++ ((k, o) ∷ [])) before (put n d after)) copied last)

-- ---- a first token

pub object_begins : (ts : List Token) (t : Token) (rest : List Token) → first_token ts ≡ Some Token.begin_object → ts ≡ t ∷ rest → ts ≡ Token.begin_object ∷ rest
object_begins ts t rest opens is =
    let both : Some t ≡ Some Token.begin_object = sym (ap first_token is) ∙ opens in
    let same : t ≡ Token.begin_object = cc in
    is ∙ ap (λ x. x ∷ rest) same

refused_object : (t : Token) → (t ≡ Token.begin_object → ⊥) → begins_object t ≡ false
refused_object Token.begin_object other = absurd (other refl)
refused_object Token.end_object other = refl
refused_object Token.begin_array other = refl
refused_object Token.end_array other = refl
refused_object (Token.key s) other = refl
refused_object (Token.string s) other = refl
refused_object (Token.number s) other = refl
refused_object (Token.boolean b) other = refl
refused_object Token.null other = refl
refused_object Token.bad other = refl

pub other_begins : (ts : List Token) (t : Token) (rest : List Token) → first_token ts ≢ Some Token.begin_object → ts ≡ t ∷ rest → begins_object t ≡ false
other_begins ts t rest other is = refused_object t (λ same. other (ap first_token is ∙ ap (λ x. Some x) same))

-- ---- a whole text that is an object

-- what its members are, whatever members were there before
abbrev pub MembersAre : List Outcome → List Token → List Token → Type 0
MembersAre es rest left = (before : Members) → (after : Members) × (converted (λ j. of_members j before) (members (value 126) (length rest) rest) ≡ Some (after, left)) × AreEntered es before after

whole_object : (ts rest : List Token) (parts : json.Members) → ts ≡ Token.begin_object ∷ rest → members (value 126) (length rest) rest ≡ Some (parts, []) → option_and_then (λ p. if_last p.0 p.1) (value 127 ts) ≡ Some (json.object parts)
whole_object ts rest parts first is =
    ap (λ xs. option_and_then (λ p. if_last p.0 p.1) (value 127 xs)) first
    ∙ ap (option_and_then (λ p. if_last p.0 p.1)) (value-begin_object 127 rest (omega arith) ∙ ap (parse_map json.object) is)

unpaired : (x : Option Members) (b : Members) → option_map {U = Members × List Token} (λ y. (y, [])) x ≡ Some (b, []) → x ≡ Some b
unpaired None b is = absurd cc
unpaired (Some y) b is = ap (λ o. option_map (λ p. p.0) o) is

put_in : (parts : json.Members) (o : Option (json.Members × List Token)) (before after : Members) → o ≡ Some (parts, []) → converted (λ j. of_members j before) o ≡ Some (after, []) → of_members parts before ≡ Some after
put_in parts o before after is read = unpaired (of_members parts before) after (sym (ap (converted (λ j. of_members j before)) is) ∙ read)

pub object_read : (es : List Outcome) (ts rest : List Token) → ts ≡ Token.begin_object ∷ rest → MembersAre es rest [] → AreMembersRead es ts
object_read es ts rest first are =
    let none = are no_members in
    let o = members (value 126) (length rest) rest in
    let read = from_json (λ j. of_members j no_members) o none.0 [] none.1 in
    record {
      parts = read.0;
      value = whole_object ts rest read.0 first read.1;
      put = λ before. (let now = are before in (now.0, put_in read.0 o before now.0 read.1 now.1, now.2));
    }
