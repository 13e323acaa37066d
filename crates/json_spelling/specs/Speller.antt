-- What a speller has of a JSON value whose tokens come one at a time; for private clauses.
use Rattle.std.specs.Prelude.{◌≡◌, ℕ, ◌+◌, suc, max, List, [], ◌∷◌, ◌++◌, length, reverse, Bool, true, false, ◌||◌, ⊤, Option, Some, None, option_map, option_and_then, is_some, string_bytes}
use Rattle.std.specs.Cmp.Lexicographic.{slice_cmp}
use Rattle.std.specs.Ordering.{nat_cmp}
use Rattle.std.specs.declared.cmp.Ordering.{Ordering}
use Rattle.std.specs.Str.{IsUtf8}
use Rattle.json.specs.Token.{Token}
use Rattle.json.specs.Json.{Json}
use Rattle.json.specs.Print.{quoted}
use Rattle.json_stack.specs.Machine.{Frame, in_array, in_object, in_member, StackState, reading, done, failed, awaits_value, value_ended, next_state, state_after, start_state, result_of}
use Rattle.serde_json.specs.Data.{Data, Items, no_items, item, Members, no_members, member, depth, items_depth, members_depth}
use Rattle.serde_json.specs.Read.{of_json, of_items, of_members, max_depth}
use Rattle.serde_json.specs.Written.{has_float, items_have_float, members_have_float, comma_if, compact_text}
use Rattle.json_spelling.specs.Spelled.{IsExtent, IsSpelled, rises}
use Rattle.json_spelling.specs.declared.spelling.Spelled.{Spelled}
use Rattle.json_spelling.specs.declared.speller.Opened.{Opened}
use Rattle.json_spelling.specs.declared.speller.Speller.{Speller}

-- an open array with its items so far, an open object with its members so far, or such an object after a key
pub data DataFrame : Type 0 where
  data_array : Items → DataFrame
  data_object : Members → DataFrame
  data_member : Members → List ℕ → DataFrame

-- ---- the data that frames of the machine are

abbrev pub IsFrameData : Frame → DataFrame → Type 0
IsFrameData (in_array js) (data_array ds) = of_items js ≡ Some ds
IsFrameData (in_object js) (data_object ms) = of_members js no_members ≡ Some ms
IsFrameData (in_member js k) (data_member ms l) = (of_members js no_members ≡ Some ms) × (k ≡ l)
IsFrameData _ _ = ⊥

-- each frame around another awaits a value
abbrev pub AreFrameData : List Frame → List DataFrame → Type 0
AreFrameData [] [] = ⊤
AreFrameData (frame ∷ frames) (f ∷ fs) = IsFrameData frame f × (awaits_value frames ≡ true) × AreFrameData frames fs
AreFrameData _ _ = ⊥

-- items with one more at their end
abbrev pub items_with : Items → Data → Items
items_with no_items d = item d no_items
items_with (item e ds) d = item e (items_with ds d)

-- ---- what is written for them

abbrev pub has_items : Items → Bool
has_items no_items = false
has_items (item d ds) = true

abbrev pub has_members : Members → Bool
has_members no_members = false
has_members (member k d ms) = true

-- items with commas between them, and no bracket
abbrev pub items_written : Bool → Items → List ℕ
items_written later no_items = []
items_written later (item d ds) = comma_if later ++ (compact_text d ++ items_written true ds)

abbrev pub members_written : Bool → Members → List ℕ
members_written later no_members = []
members_written later (member k d ms) = comma_if later ++ (quoted k ++ 58 ∷ (compact_text d ++ members_written true ms))

-- an open array or object, with its bracket
abbrev pub frame_text : DataFrame → List ℕ
frame_text (data_array ds) = 91 ∷ items_written false ds
frame_text (data_object ms) = 123 ∷ members_written false ms
frame_text (data_member ms k) = 123 ∷ (members_written false ms ++ (comma_if (has_members ms) ++ (quoted k ++ 58 ∷ [])))

-- whether a comma comes before the value that is awaited there
abbrev pub comma_awaited : List DataFrame → Bool
comma_awaited (data_array ds ∷ fs) = has_items ds
comma_awaited _ = false

-- all that is written, the innermost frame last
abbrev pub frames_text : List DataFrame → List ℕ
frames_text [] = []
frames_text (f ∷ fs) = (frames_text fs ++ comma_if (comma_awaited fs)) ++ frame_text f

-- ---- their extent

abbrev pub frame_depth : DataFrame → ℕ
frame_depth (data_array ds) = items_depth ds
frame_depth (data_object ms) = members_depth ms
frame_depth (data_member ms k) = members_depth ms

abbrev pub frame_float : DataFrame → Bool
frame_float (data_array ds) = items_have_float ds
frame_float (data_object ms) = members_have_float ms
frame_float (data_member ms k) = members_have_float ms

-- how many levels the whole has, were all that is open to end here
abbrev pub frames_depth : List DataFrame → ℕ
frames_depth [] = 0
frames_depth (f ∷ fs) = max (frames_depth fs) (suc (length fs) + frame_depth f)

abbrev pub frames_float : List DataFrame → Bool
frames_float [] = false
frames_float (f ∷ fs) = frames_float fs || frame_float f

-- ---- what is known of them

-- the key is above each key of the members
abbrev pub IsAboveMembers : List ℕ → Members → Type 0
IsAboveMembers k no_members = ⊤
IsAboveMembers k (member l d ms) = (slice_cmp nat_cmp k l ≡ Ordering.Greater) × IsAboveMembers k ms

abbrev pub IsOpenedAt : DataFrame → Opened → Type 0
IsOpenedAt (data_array ds) (Opened.Array later) = later ≡ has_items ds
IsOpenedAt (data_object ms) (Opened.Object last) = ((k : List ℕ) → rises (option_map string_bytes last) k ≡ true → IsAboveMembers k ms) × (is_some last ≡ has_members ms)
IsOpenedAt (data_member ms k) (Opened.Member key) = (string_bytes key ≡ k) × IsAboveMembers k ms
IsOpenedAt _ _ = ⊥

-- innermost first
abbrev pub AreOpened : List DataFrame → List Opened → Type 0
AreOpened [] [] = ⊤
AreOpened (f ∷ fs) (o ∷ os) = IsOpenedAt f o × AreOpened fs os
AreOpened _ _ = ⊥

-- ---- how far a speller is

-- these frames are open, and so many levels are left
abbrev pub IsInside : ℕ → List Frame → List DataFrame → Speller → Type 0
IsInside room frames fs speller = AreFrameData frames fs × AreOpened fs (reverse speller.opened.items) × (length frames + room ≡ speller.levels) × (speller.ended ≡ false) × IsUtf8 speller.out.items

-- a speller stands where the machine does
abbrev pub FollowsMachine : StackState → Speller → Type 0
FollowsMachine (reading room frames) speller =
    (fs : List DataFrame) × IsInside room frames fs speller × (speller.out.items ≡ frames_text fs) × IsExtent speller.extent (frames_depth fs) (frames_float fs)
FollowsMachine (done j) speller =
    (d : Data) × (of_json j ≡ Some d) × (speller.opened.items ≡ []) × (speller.ended ≡ true) × (speller.out.items ≡ compact_text d) × IsExtent speller.extent (depth d) (has_float d) × IsUtf8 speller.out.items
FollowsMachine failed speller = ⊥

-- ---- a value is put there

abbrev pub awaits : StackState → Bool
awaits (reading room frames) = awaits_value frames
awaits (done j) = false
awaits failed = false

abbrev pub with_value : StackState → Json → StackState
with_value (reading room frames) j = value_ended room frames j
with_value (done j) i = failed
with_value failed i = failed

-- a value is awaited, and its comma is written
abbrev pub IsBeforeValue : StackState → Speller → Type 0
IsBeforeValue (reading room frames) speller =
    (fs : List DataFrame) × IsInside room frames fs speller × (awaits_value frames ≡ true) × (speller.out.items ≡ frames_text fs ++ comma_if (comma_awaited fs))
    × IsExtent speller.extent (frames_depth fs) (frames_float fs)
IsBeforeValue (done j) speller = ⊥
IsBeforeValue failed speller = ⊥

-- that value is written too
abbrev pub IsBehindValue : StackState → Data → Speller → Type 0
IsBehindValue (reading room frames) d speller =
    (fs : List DataFrame) × IsInside room frames fs speller × (awaits_value frames ≡ true) × (speller.out.items ≡ (frames_text fs ++ comma_if (comma_awaited fs)) ++ compact_text d)
    × IsExtent speller.extent (max (frames_depth fs) (length fs + depth d)) (frames_float fs || has_float d)
IsBehindValue (done j) d speller = ⊥
IsBehindValue failed d speller = ⊥

-- whether a comma comes before the value that is awaited, None where none is
abbrev pub value_awaited : List Opened → Option Bool
value_awaited [] = Some false
value_awaited (Opened.Array later ∷ os) = Some later
value_awaited (Opened.Object last ∷ os) = None
value_awaited (Opened.Member key ∷ os) = Some false

-- what is open innermost, once the value that is awaited has come
abbrev pub opened_after : Opened → Opened
opened_after (Opened.Array later) = Opened.Array true
opened_after (Opened.Object last) = Opened.Object last
opened_after (Opened.Member key) = Opened.Object (Some key)

-- what is open innermost is an array
abbrev pub is_array : Option Opened → Bool
is_array None = false
is_array (Some (Opened.Array later)) = true
is_array (Some (Opened.Object last)) = false
is_array (Some (Opened.Member key)) = false

-- or an object that awaits no value
abbrev pub is_object : Option Opened → Bool
is_object None = false
is_object (Some (Opened.Array later)) = false
is_object (Some (Opened.Object last)) = true
is_object (Some (Opened.Member key)) = false

-- a token that is a value by itself, and no number
abbrev pub IsPlainValue : Token → Type 0
IsPlainValue Token.null = ⊤
IsPlainValue (Token.boolean b) = ⊤
IsPlainValue (Token.string s) = ⊤
IsPlainValue _ = ⊥

-- ---- a token more

-- a speller goes over a token as the machine does
abbrev pub GoesOver : Speller → Token → Speller → Type 0
GoesOver old t new = (s : StackState) → FollowsMachine s old → FollowsMachine (next_state s t) new

-- no tokens that go on so are a value
abbrev pub RefusesToken : Speller → Token → Type 0
RefusesToken old t = (s : StackState) → FollowsMachine s old → (more : List Token) → option_and_then of_json (result_of (state_after (next_state s t) more)) ≡ None

-- ---- a value that has ended

-- the machine has come to the value, which is spelled
abbrev pub IsEnded : StackState → Spelled → Type 0
IsEnded s spelled = (j : Json) × (d : Data) × (s ≡ done j) × (of_json j ≡ Some d) × IsSpelled spelled d

-- or it is still reading
abbrev pub IsUnended : StackState → Speller → Speller → Type 0
IsUnended s old new = (room : ℕ) × (frames : List Frame) × (s ≡ reading room frames) × (new ≡ old)

-- ---- all tokens of a text

-- these tokens came to a speller of as many levels as are read
abbrev pub HasSpelled : List Token → Speller → Type 0
HasSpelled ts speller = FollowsMachine (state_after (start_state max_depth) ts) speller
