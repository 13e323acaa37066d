-- Three objects are joined in either order.
use Rattle.std.proofs.Common.{◌≡◌, Option, Some, None, refl, sym, ap, ◌∙◌}
use Rattle.std.specs.Prelude.{option_and_then}
use Rattle.json.specs.Json.{Json, null, boolean, number, string, array, object, Members, no_members, member}
use Rattle.json_members.specs.JoinedObjects.{members_before, some_members, joined_objects}

before_in_turn : (ls ms ns : Members) → members_before (members_before ls ms) ns ≡ members_before ls (members_before ms ns)
unfolding members_before
before_in_turn no_members ms ns = refl
before_in_turn (member k j ls) ms ns = ap (λ m. member k j m) (before_in_turn ls ms ns)

-- what is joined of members that are some
abbrev both : Option Members → Option Members → Option Json
both first second = option_and_then (λ ms. option_and_then (λ ns. Some (object (members_before ms ns))) second) first

abbrev some_of : Option Json → Option Members
some_of o = option_and_then some_members o

-- members before others are some, where they are
kept : (j : Json) (ms ns : Members) → some_members j ≡ Some ms → some_members (object (members_before ms ns)) ≡ Some (members_before ms ns)
unfolding members_before
kept null ms ns e = let never : ⊥ = cc in absurd never
kept (boolean b) ms ns e = let never : ⊥ = cc in absurd never
kept (number s) ms ns e = let never : ⊥ = cc in absurd never
kept (string s) ms ns e = let never : ⊥ = cc in absurd never
kept (array js) ms ns e = let never : ⊥ = cc in absurd never
kept (object no_members) ms ns e = let never : ⊥ = cc in absurd never
kept (object (member k j ls)) no_members ns e = let never : ⊥ = cc in absurd never
kept (object (member k j ls)) (member l i ms) ns e = refl

of_value : (o : Option Json) (ms ns : Members) → some_of o ≡ Some ms → some_members (object (members_before ms ns)) ≡ Some (members_before ms ns)
of_value None ms ns e = let never : ⊥ = cc in absurd never
of_value (Some j) ms ns e = kept j ms ns e

none_behind : (p : Option Members) → both p None ≡ None
none_behind None = refl
none_behind (Some ms) = refl

pub in_turn : (first second third : Option Json) → joined_objects (joined_objects first second) third ≡ joined_objects first (joined_objects second third)
in_turn first second third = go (some_of first) (some_of second) (some_of third) refl refl
  where
    go : (p q r : Option Members) → some_of first ≡ p → some_of second ≡ q → both (some_of (both p q)) r ≡ both p (some_of (both q r))
    go None q r e f = refl
    go (Some ls) None r e f = refl
    go (Some ls) (Some ms) None e f = none_behind (some_members (object (members_before ls ms)))
    go (Some ls) (Some ms) (Some ns) e f =
        ap (λ o. both o (Some ns)) (of_value first ls ms e)
        ∙ ap (λ m. Some (object m)) (before_in_turn ls ms ns)
        ∙ sym (ap (λ o. both (Some ls) o) (of_value second ms ns f))
