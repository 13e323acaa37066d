-- A machine that reads JSON a token at a time, and keeps a stack of the arrays and objects that are open.
use Rattle.std.specs.Prelude.{ℕ, zero, suc, Bool, true, false, List, [], ◌∷◌, Option, Some, None, option_and_then, if◌then◌else◌}
use Rattle.json.specs.Token.{Token}
use Rattle.json.specs.Json.{Json, null, boolean, number, string, array, object, Items, no_items, item, Members, no_members, member, value, if_last}

-- items with one more at their end
unfoldable pub items_and : Items → Json → Items
items_and no_items j = item j no_items
items_and (item i js) j = item i (items_and js j)

-- members with one more at their end
unfoldable pub members_and : Members → List ℕ → Json → Members
members_and no_members k j = member k j no_members
members_and (member l i ms) k j = member l i (members_and ms k j)

-- What is open: an array with its items so far, which awaits a value or its end; an object with its members so far,
-- which awaits a key or its end; or such an object after a key, whose value it awaits.
pub data Frame : Type 0 where
  in_array : Items → Frame
  in_object : Members → Frame
  in_member : Members → List ℕ → Frame

-- A value is being read: how many levels deeper it may go, and what is open, innermost first. Where nothing is open,
-- the one value of the whole is awaited. Or that value has ended; or no value begins with the tokens.
pub data StackState : Type 0 where
  reading : ℕ → List Frame → StackState
  done : Json → StackState
  failed : StackState

-- a value has ended inside these frames
abbrev pub value_ended : ℕ → List Frame → Json → StackState
value_ended room [] j = done j
value_ended room (in_array js ∷ frames) j = reading room (in_array (items_and js j) ∷ frames)
value_ended room (in_object ms ∷ frames) j = failed
value_ended room (in_member ms k ∷ frames) j = reading room (in_object (members_and ms k j) ∷ frames)

-- the innermost frame, or the whole, awaits a value
abbrev pub awaits_value : List Frame → Bool
awaits_value [] = true
awaits_value (in_array js ∷ frames) = true
awaits_value (in_object ms ∷ frames) = false
awaits_value (in_member ms k ∷ frames) = true

-- a bracket opens this frame, where a value is awaited and one level more is left
abbrev pub opened_frame : ℕ → List Frame → Frame → StackState
opened_frame zero frames frame = failed
opened_frame (suc room) frames frame = if awaits_value frames then reading room (frame ∷ frames) else failed

-- `]` closes the array that is innermost, which is then a value that has ended
abbrev pub array_ended : ℕ → List Frame → StackState
array_ended room [] = failed
array_ended room (in_array js ∷ frames) = value_ended (suc room) frames (array js)
array_ended room (in_object ms ∷ frames) = failed
array_ended room (in_member ms k ∷ frames) = failed

-- and `}` the object, which awaits no value
abbrev pub object_ended : ℕ → List Frame → StackState
object_ended room [] = failed
object_ended room (in_array js ∷ frames) = failed
object_ended room (in_object ms ∷ frames) = value_ended (suc room) frames (object ms)
object_ended room (in_member ms k ∷ frames) = failed

-- a key stands in the object that is innermost, which awaits no value
abbrev pub key_read : ℕ → List Frame → List ℕ → StackState
key_read room [] k = failed
key_read room (in_array js ∷ frames) k = failed
key_read room (in_object ms ∷ frames) k = reading room (in_member ms k ∷ frames)
key_read room (in_member ms l ∷ frames) k = failed

-- the state that one token leads to inside these frames
abbrev pub state_within : ℕ → List Frame → Token → StackState
state_within room frames Token.begin_object = opened_frame room frames (in_object no_members)
state_within room frames Token.end_object = object_ended room frames
state_within room frames Token.begin_array = opened_frame room frames (in_array no_items)
state_within room frames Token.end_array = array_ended room frames
state_within room frames (Token.key s) = key_read room frames s
state_within room frames (Token.string s) = value_ended room frames (string s)
state_within room frames (Token.number s) = value_ended room frames (number s)
state_within room frames (Token.boolean b) = value_ended room frames (boolean b)
state_within room frames Token.null = value_ended room frames null
state_within room frames Token.bad = failed

-- the state that one token leads to: nothing stands behind the whole value, and what has failed stays so
abbrev pub next_state : StackState → Token → StackState
next_state (reading room frames) t = state_within room frames t
next_state (done j) t = failed
next_state failed t = failed

-- the state that tokens lead to
unfoldable pub state_after : StackState → List Token → StackState
state_after s [] = s
state_after s (t ∷ ts) = state_after (next_state s t) ts

-- the state before the first token of a value with at most so many levels of arrays and objects
abbrev pub start_state : ℕ → StackState
start_state depth = reading depth []

-- the value that was read, where it has ended
abbrev pub result_of : StackState → Option Json
result_of (reading room frames) = None
result_of (done j) = Some j
result_of failed = None

-- the value that tokens are, by the grammar, where nothing stands behind it
abbrev pub whole_value : ℕ → List Token → Option Json
whole_value depth ts = option_and_then (λ p. if_last p.0 p.1) (value depth ts)
