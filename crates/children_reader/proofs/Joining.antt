-- Objects that are read in parts, and what is made of their members.
use Rattle.std.proofs.Common.{◌≡◌, ◌≢◌, ℕ, List, [], ◌∷◌, Option, Some, None, option_and_then, option_map, string_bytes, Ordering, Less, Equal, Greater, nat_cmp, refl, sym, ap, ◌∙◌, subst}
use Rattle.std.specs.Cmp.Lexicographic.{slice_cmp}
use Rattle.std.specs.Ordering.{match_ordering}
use Rattle.json.specs.Json as json
use Rattle.json_members.specs.JoinedObjects.{members_before, some_members, joined_objects}
use Rattle.serde_json.specs.Data.{Data, object, Members, no_members, member, put}
use Rattle.serde_json.specs.Read.{of_json, of_members}
use Rattle.children_reader.specs.Collected.{AreEntered, with_before}
use Rattle.children_reader.specs.Kept.{Outcome, AreOutcomes}

-- what is used of joined objects
abbrev pub TurnLaw : Type 0
TurnLaw = (first second third : Option json.Json) → joined_objects (joined_objects first second) third ≡ joined_objects first (joined_objects second third)

-- ---- members before others

-- an object that is cut goes on where its first part has members
pub with_part : TurnLaw → (parts found : json.Members) (rest : Option json.Json) → found ≢ json.no_members → with_before parts (joined_objects (Some (json.object found)) rest) ≡ with_before (members_before parts found) rest
unfolding members_before
with_part turn parts json.no_members rest some = absurd (some refl)
with_part turn json.no_members (json.member k j ms) rest some = refl
with_part turn (json.member l i ls) (json.member k j ms) rest some = sym (turn (Some (json.object (json.member l i ls))) (Some (json.object (json.member k j ms))) rest)

-- and ends
pub with_last : (parts found : json.Members) → found ≢ json.no_members → with_before parts (Some (json.object found)) ≡ Some (json.object (members_before parts found))
unfolding members_before
with_last parts json.no_members some = absurd (some refl)
with_last json.no_members (json.member k j ms) some = refl
with_last (json.member l i ls) (json.member k j ms) some = refl

with_none : (parts : json.Members) → with_before parts None ≡ None
with_none json.no_members = refl
with_none (json.member k j ms) = refl

-- a part with no members is part of no object that goes on
pub empty_part : (parts : json.Members) (rest : Option json.Json) → with_before parts (joined_objects (Some (json.object json.no_members)) rest) ≡ None
empty_part parts rest = with_none parts

-- nor of one that has members
pub empty_last : (parts : json.Members) → parts ≢ json.no_members → with_before parts (Some (json.object json.no_members)) ≡ None
empty_last json.no_members some = absurd (some refl)
empty_last (json.member k j ms) some = refl

-- ---- what is made of members

-- of members, and then of others
pub made_before : (ms ns : json.Members) (found : Members) → of_members (members_before ms ns) found ≡ option_and_then (of_members ns) (of_members ms found)
unfolding members_before
made_before json.no_members ns found = refl
made_before (json.member k j ms) ns found = go (λ d. made_before ms ns (put k d found)) (of_json j)
  where
    go : ((d : Data) → of_members (members_before ms ns) (put k d found) ≡ option_and_then (of_members ns) (of_members ms (put k d found))) → (o : Option Data)
        → option_and_then (λ d. of_members (members_before ms ns) (put k d found)) o ≡ option_and_then (of_members ns) (option_and_then (λ d. of_members ms (put k d found)) o)
    go more None = refl
    go more (Some d) = more d

-- whether nothing is made of them does not stand on what was made before
pub none_made : (ms : json.Members) (found other : Members) → of_members ms found ≡ None → of_members ms other ≡ None
none_made json.no_members found other none = let never : ⊥ = cc in absurd never
none_made (json.member k j ms) found other none = go (λ d. none_made ms (put k d found) (put k d other)) (of_json j) none
  where
    go : ((d : Data) → of_members ms (put k d found) ≡ None → of_members ms (put k d other) ≡ None) → (o : Option Data)
        → option_and_then (λ d. of_members ms (put k d found)) o ≡ None → option_and_then (λ d. of_members ms (put k d other)) o ≡ None
    go more None none = refl
    go more (Some d) none = more d none

-- a member that is put in is there
put_some : (k : List ℕ) (d : Data) (ms : Members) → put k d ms ≢ no_members
put_some k d no_members is = let never : ⊥ = cc in never
put_some k d (member l e ms) is = go (slice_cmp nat_cmp k l) is
  where
    go : (o : Ordering) → match_ordering o (member k d (member l e ms)) (member l d ms) (member l e (put k d ms)) ≢ no_members
    go Less is = let never : ⊥ = cc in never
    go Equal is = let never : ⊥ = cc in never
    go Greater is = let never : ⊥ = cc in never

some_made : (ms : json.Members) (found : Members) → found ≢ no_members → of_members ms found ≢ Some no_members
some_made json.no_members found some is = some cc
some_made (json.member k j ms) found some is = go (λ d. some_made ms (put k d found) (put_some k d found)) (of_json j) is
  where
    go : ((d : Data) → of_members ms (put k d found) ≢ Some no_members) → (o : Option Data) → option_and_then (λ d. of_members ms (put k d found)) o ≢ Some no_members
    go more None is = let never : ⊥ = cc in never
    go more (Some d) is = more d is

-- no members are made only of none
pub made_of_none : (ms : json.Members) (found : Members) → of_members ms found ≡ Some no_members → ms ≡ json.no_members
made_of_none json.no_members found is = refl
made_of_none (json.member k j ms) found is = absurd (go (of_json j) is)
  where
    go : (o : Option Data) → option_and_then (λ d. of_members ms (put k d found)) o ≢ Some no_members
    go None is = let never : ⊥ = cc in never
    go (Some d) is = some_made ms (put k d found) (put_some k d found) is

-- outcomes of members are some where these are
pub none_kept : (es : List Outcome) (ms : Members) → es ≡ [] → AreOutcomes es ms → ms ≡ no_members
none_kept [] no_members none are = refl
none_kept [] (member k d ms) none are = absurd are
none_kept (e ∷ es) ms none are = let never : ⊥ = cc in absurd never

pub some_kept : (es : List Outcome) (ms : Members) → es ≢ [] → AreOutcomes es ms → ms ≢ no_members
some_kept [] ms some are is = some refl
some_kept (e ∷ es) no_members some are is = are
some_kept (e ∷ es) (member k d ms) some are is = let never : ⊥ = cc in never

still_some : (es : List Outcome) (before : Members) → before ≢ no_members → AreEntered es before no_members → ⊥
still_some [] before some are = some are
still_some (e ∷ es) before some are = still_some es (put (string_bytes e.0) are.0 before) (put_some (string_bytes e.0) are.0 before) are.2

pub some_put : (es : List Outcome) → es ≢ [] → AreEntered es no_members no_members → ⊥
some_put [] some are = some refl
some_put (e ∷ es) some are = still_some es (put (string_bytes e.0) are.0 no_members) (put_some (string_bytes e.0) are.0 no_members) are.2

-- ---- values of which nothing is made

abbrev pub of_whole : Option json.Json → Option Data
of_whole o = option_and_then of_json o

abbrev some_of : Option json.Json → Option json.Members
some_of o = option_and_then some_members o

is_object : (j : json.Json) (ms : json.Members) → some_members j ≡ Some ms → j ≡ json.object ms
is_object json.null ms is = let never : ⊥ = cc in absurd never
is_object (json.boolean b) ms is = let never : ⊥ = cc in absurd never
is_object (json.number s) ms is = let never : ⊥ = cc in absurd never
is_object (json.string s) ms is = let never : ⊥ = cc in absurd never
is_object (json.array js) ms is = let never : ⊥ = cc in absurd never
is_object (json.object json.no_members) ms is = let never : ⊥ = cc in absurd never
is_object (json.object (json.member k j ls)) ms is = cc

no_members_made : (ms : json.Members) → of_json (json.object ms) ≡ None → of_members ms no_members ≡ None
no_members_made ms none = go (of_members ms no_members) none
  where
    go : (o : Option Members) → option_map object o ≡ None → o ≡ None
    go None none = refl
    go (Some found) none = let never : ⊥ = cc in absurd never

no_members_of : (o : Option json.Json) (ms : json.Members) → of_whole o ≡ None → some_of o ≡ Some ms → of_members ms no_members ≡ None
no_members_of None ms none is = let never : ⊥ = cc in absurd never
no_members_of (Some j) ms none is = no_members_made ms (subst (λ x. of_json x ≡ None) (is_object j ms is) none)

none_behind : (o : Option Members) (ns : json.Members) → ((found : Members) → of_members ns found ≡ None) → option_and_then (of_members ns) o ≡ None
none_behind None ns none = refl
none_behind (Some found) ns none = none found

-- nothing is made of what is joined where nothing is made of a part
pub no_front : (front back : Option json.Json) → of_whole front ≡ None → of_whole (joined_objects front back) ≡ None
no_front front back none = go (some_of front) (some_of back) refl
  where
    go : (p q : Option json.Members) → some_of front ≡ p → of_whole (option_and_then (λ ms. option_and_then (λ ns. Some (json.object (members_before ms ns))) q) p) ≡ None
    go None q is = refl
    go (Some ms) None is = refl
    go (Some ms) (Some ns) is = ap (option_map object) (made_before ms ns no_members ∙ ap (option_and_then (of_members ns)) (no_members_of front ms none is))

pub no_back : (front back : Option json.Json) → of_whole back ≡ None → of_whole (joined_objects front back) ≡ None
no_back front back none = go (some_of front) (some_of back) refl
  where
    go : (p q : Option json.Members) → some_of back ≡ q → of_whole (option_and_then (λ ms. option_and_then (λ ns. Some (json.object (members_before ms ns))) q) p) ≡ None
    go None q is = refl
    go (Some ms) None is = refl
    go (Some ms) (Some ns) is =
        ap (option_map object) (made_before ms ns no_members ∙ none_behind (of_members ms no_members) ns (λ found. none_made ns no_members found (no_members_of back ns none is)))

pub none_with : (parts : json.Members) (rest : Option json.Json) → of_whole rest ≡ None → of_whole (with_before parts rest) ≡ None
none_with json.no_members rest none = none
none_with (json.member k j ms) rest none = no_back (Some (json.object (json.member k j ms))) rest none
