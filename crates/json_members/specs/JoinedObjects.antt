-- Two objects as one, with the members of both.
use Rattle.std.specs.Prelude.{Option, Some, None, option_and_then}
use Rattle.json.specs.Json.{Json, null, boolean, number, string, array, object, Members, no_members, member}

-- members, and then others
unfoldable pub members_before : Members → Members → Members
members_before no_members ns = ns
members_before (member k j ms) ns = member k j (members_before ms ns)

-- the members of an object that has some
abbrev pub some_members : Json → Option Members
some_members null = None
some_members (boolean b) = None
some_members (number s) = None
some_members (string s) = None
some_members (array js) = None
some_members (object no_members) = None
some_members (object (member k j ms)) = Some (member k j ms)

-- the object with the members of both, in order, where both are objects that have some
abbrev pub joined_objects : Option Json → Option Json → Option Json
joined_objects front back =
    option_and_then (λ ms. option_and_then (λ ns. Some (object (members_before ms ns))) (option_and_then some_members back)) (option_and_then some_members front)
