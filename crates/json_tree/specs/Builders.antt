-- How far a builder is, beside the machine that reads JSON a token at a time.
use Rattle.std.specs.Prelude.{◌≡◌, ℕ, ◌+◌, List, [], ◌∷◌, length, reverse, Bool, true, false, ⊤, Option, Some, None, option_and_then, Result, Ok, Err, string_bytes}
use Rattle.json.specs.Token.{Token}
use Rattle.json.specs.Json.{Json}
use Rattle.json_stack.specs.Machine.{Frame, in_array, in_object, in_member, items_and, members_and, StackState, reading, done, failed, awaits_value, value_ended, opened_frame, next_state, state_after, start_state, result_of, whole_value}
use Rattle.serde_json.specs.Data.{Data, no_members}
use Rattle.serde_json.specs.Read.{of_json, of_items, of_members}
use Rattle.serde_json.specs.View.{view, items_view, members_view}
use Rattle.serde_json.specs.declared.value.Value.{Value}
use Rattle.json_tree.specs.declared.builder.Opened.{Opened}
use Rattle.json_tree.specs.declared.builder.TreeBuilder.{TreeBuilder}

-- what is open has the items or members of that frame
abbrev pub HasFrame : Frame → Opened → Type 0
HasFrame (in_array js) (Opened.Array items) = of_items js ≡ Some (items_view items.items)
HasFrame (in_object js) (Opened.Object members) = of_members js no_members ≡ Some (members_view members.entries)
HasFrame (in_member js k) (Opened.Member members key) = (of_members js no_members ≡ Some (members_view members.entries)) × (string_bytes key ≡ k)
HasFrame _ _ = ⊥

-- the same of all that are open, innermost first: each is the value that the one around it awaits
abbrev pub HaveFrames : List Frame → List Opened → Type 0
HaveFrames [] [] = ⊤
HaveFrames (frame ∷ frames) (o ∷ os) = HasFrame frame o × (awaits_value frames ≡ true) × HaveFrames frames os
HaveFrames _ _ = ⊥

-- a builder stands where the machine does
abbrev pub FollowsStack : StackState → TreeBuilder → Type 0
FollowsStack (reading room frames) builder = HaveFrames frames (reverse builder.opened.items) × (length frames + room ≡ builder.levels) × (builder.value ≡ None)
FollowsStack (done j) builder = (value : Value) × (builder.value ≡ Some value) × (of_json j ≡ Some (view value)) × (builder.opened.items ≡ [])
FollowsStack failed builder = ⊥

-- it follows the machine over a token
abbrev pub FollowsToken : TreeBuilder → Token → TreeBuilder → Type 0
FollowsToken old t new = (s : StackState) → FollowsStack s old → FollowsStack (next_state s t) new

-- no tokens that go on so are a value
abbrev pub HasNoValueWith : TreeBuilder → Token → Type 0
HasNoValueWith builder t = (s : StackState) → FollowsStack s builder → (more : List Token) → option_and_then of_json (result_of (state_after (next_state s t) more)) ≡ None

-- it stands where it stood
abbrev pub StaysThere : TreeBuilder → TreeBuilder → Type 0
StaysThere old new = (s : StackState) → FollowsStack s old → FollowsStack s new

-- the machine has come to that value, or it is still reading and the builder is given back
abbrev pub IsFinished : StackState → TreeBuilder → Result Value TreeBuilder → Type 0
IsFinished s builder (Ok value) = (j : Json) × (s ≡ done j) × (of_json j ≡ Some (view value))
IsFinished s builder (Err given) = (room : ℕ) × (frames : List Frame) × (s ≡ reading room frames) × (given ≡ builder)

-- it took these tokens, from the first on, as those of a value with at most so many levels
abbrev pub HasTakenTokens : ℕ → List Token → TreeBuilder → Type 0
HasTakenTokens levels ts builder = FollowsStack (state_after (start_state levels) ts) builder

-- the data that tokens are, where they are a whole value
abbrev pub built_data : ℕ → List Token → Option Data
built_data levels ts = option_and_then of_json (whole_value levels ts)

-- ---- for private clauses

-- what is innermost, if anything is open, awaits a value
abbrev pub is_due : List Opened → Bool
is_due [] = true
is_due (Opened.Array items ∷ os) = true
is_due (Opened.Object members ∷ os) = false
is_due (Opened.Member members key ∷ os) = true

-- the machine awaits a value there
abbrev pub is_due_at : StackState → Bool
is_due_at (reading room frames) = awaits_value frames
is_due_at (done j) = false
is_due_at failed = false

-- that frame opens there
abbrev pub state_within_frame : StackState → Frame → StackState
state_within_frame (reading room frames) frame = opened_frame room frames frame
state_within_frame (done j) frame = failed
state_within_frame failed frame = failed

-- the value that it awaits has ended
abbrev pub state_behind : StackState → Json → StackState
state_behind (reading room frames) j = value_ended room frames j
state_behind (done i) j = failed
state_behind failed j = failed

-- the innermost frame once the value that it awaits has ended
abbrev pub frame_behind : Frame → Json → Frame
frame_behind (in_array js) j = in_array (items_and js j)
frame_behind (in_object ms) j = in_object ms
frame_behind (in_member ms k) j = in_object (members_and ms k j)
