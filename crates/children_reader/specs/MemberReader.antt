-- Members of children JSON whose tokens come one at a time; for private clauses.
use Rattle.std.specs.Prelude.{◌≡◌, ⊤, ℕ, ◌+◌, List, [], ◌∷◌, ◌++◌, length, Bool, true, false, Option, Some, None, option_and_then, string_bytes}
use Rattle.json.specs.Token.{Token}
use Rattle.json.specs.Json as json
use Rattle.json.specs.Json.{Json}
use Rattle.json_stack.specs.Machine.{Frame, in_array, in_object, in_member, StackState, reading, done, failed, next_state, state_after, start_state, result_of}
use Rattle.serde_json.specs.Data.{Data, string, array, object, Items, no_items, item, Members, no_members}
use Rattle.serde_json.specs.Find.{as_object}
use Rattle.serde_json.specs.Read.{of_json, of_items, of_members, max_depth}
use Rattle.children_reader.specs.Children.{fields_of}
use Rattle.children_reader.specs.Collected.{AreMembersMade}
use Rattle.children_reader.specs.Kept.{IsField, AreChildFields, Outcome}
use Rattle.json_spelling.specs.Spelled.{begins_object, begins_array}
use Rattle.json_spelling.specs.Speller.{FollowsMachine}
use Rattle.children_reader.specs.declared.fields.Field.{Field}
use Rattle.children_reader.specs.declared.member_reader.Begun.{Begun}
use Rattle.children_reader.specs.declared.member_reader.Listed.{Listed}
use Rattle.children_reader.specs.declared.member_reader.MemberReader.{MemberReader}
use Rattle.children_reader.specs.declared.member_reader.Stage.{Stage}
use Rattle.children_reader.specs.declared.member_reader.UnderWay.{UnderWay}

-- no tokens lead from the state to a value of which something is made
abbrev pub NoneAfter : StackState → Type 0
NoneAfter s = (more : List Token) → option_and_then of_json (result_of (state_after s more)) ≡ None

-- ---- an array or object that is under way

-- whether the outermost of some frames is an object
abbrev pub is_object_frame : Frame → Bool
is_object_frame (in_array js) = false
is_object_frame (in_object js) = true
is_object_frame (in_member js k) = true

abbrev pub outermost : List Frame → Option Bool
outermost [] = None
outermost (frame ∷ []) = Some (is_object_frame frame)
outermost (frame ∷ next ∷ frames) = outermost (next ∷ frames)

-- it is read and has not ended
pub record IsOpen (levels : ℕ) (s : StackState) (value : UnderWay) : Type 0 where
  pub room : ℕ
  pub frames : List Frame
  pub stands : s ≡ reading room frames
  pub sum : length frames + room ≡ levels
  pub kind : outermost frames ≡ Some value.object
  pub follows : FollowsMachine (reading room frames) value.speller

-- an object, or else an array
abbrev pub IsOfBracket : Bool → Data → Type 0
IsOfBracket true d = (ms : Members) × (d ≡ object ms)
IsOfBracket false d = (ds : Items) × (d ≡ array ds)

-- it has ended, and is the value of a field
pub record IsEndedField (s : StackState) (way : UnderWay) (field : Field) : Type 0 where
  pub json : Json
  pub value : Data
  pub stands : s ≡ done json
  pub made : of_json json ≡ Some value
  pub is : IsField field value
  pub kind : IsOfBracket way.object value

-- or it is as it was
abbrev pub IsStillOpen : ℕ → StackState → UnderWay → UnderWay → Type 0
IsStillOpen levels s old new = IsOpen levels s new × (new.object ≡ old.object)

-- it may have ended with the last token
abbrev pub IsOpenOrEnded : ℕ → StackState → UnderWay → Type 0
IsOpenOrEnded levels (reading room frames) value = IsOpen levels (reading room frames) value
IsOpenOrEnded levels (done j) value = (d : Data) × (of_json j ≡ Some d) × IsOfBracket value.object d × FollowsMachine (done j) value.speller
IsOpenOrEnded levels failed value = ⊥

abbrev pub opens : Token → Bool
opens Token.begin_object = true
opens Token.begin_array = true
opens _ = false

-- a value that begins with a token, by itself
abbrev pub IsBegunValue : ℕ → Token → Begun → Type 0
IsBegunValue levels t (Begun.Scalar field) =
    (j : Json) × (d : Data) × (next_state (start_state levels) t ≡ done j) × (of_json j ≡ Some d) × IsField field d × (fields_of d ≡ None) × (as_object d ≡ None)
IsBegunValue levels t (Begun.Open value) = IsOpen levels (next_state (start_state levels) t) value × (opens t ≡ true) × (value.object ≡ begins_object t)

-- ---- what is open outside of it

-- no pair of a text and an object comes of the items, whatever items come
abbrev pub is_other : Items → Bool
is_other no_items = false
is_other (item (string s) no_items) = false
is_other (item (string s) (item (object ms) no_items)) = false
is_other ds = true

abbrev pub AreListed : Listed → Items → Type 0
AreListed Listed.Nothing ds = ds ≡ no_items
AreListed Listed.Text ds = (s : List ℕ) × (ds ≡ item (string s) no_items)
AreListed (Listed.Pair fields) ds = (s : List ℕ) × (ms : Members) × (ds ≡ item (string s) (item (object ms) no_items)) × AreChildFields fields ms
AreListed Listed.Other ds = is_other ds ≡ true

-- the frames that are open, and how many levels are left in them
abbrev pub IsStage : Stage → List Outcome → ℕ → List Frame → Type 0
IsStage Stage.Members es room frames = (js : json.Members) × (frames ≡ in_object js ∷ []) × (room ≡ 126) × AreMembersMade es js
IsStage (Stage.Member key) es room frames = (js : json.Members) × (frames ≡ in_member js (string_bytes key) ∷ []) × (room ≡ 126) × AreMembersMade es js
IsStage (Stage.Pair key listed) es room frames =
    (js : json.Members) × (is : json.Items) × (ds : Items) × (frames ≡ in_array is ∷ in_member js (string_bytes key) ∷ []) × (room ≡ 125) × AreMembersMade es js × (of_items is ≡ Some ds) × AreListed listed ds
IsStage (Stage.Fields key fields) es room frames =
    (js : json.Members) × (is : json.Items) × (fs : json.Members) × (s : List ℕ) × (ms : Members) × (frames ≡ in_object fs ∷ in_array is ∷ in_member js (string_bytes key) ∷ []) × (room ≡ 124) × AreMembersMade es js
    × (of_items is ≡ Some (item (string s) no_items)) × (of_members fs no_members ≡ Some ms) × AreChildFields fields ms
IsStage (Stage.Field key fields name) es room frames =
    (js : json.Members) × (is : json.Items) × (fs : json.Members) × (s : List ℕ) × (ms : Members) × (frames ≡ in_member fs (string_bytes name) ∷ in_array is ∷ in_member js (string_bytes key) ∷ []) × (room ≡ 124) × AreMembersMade es js
    × (of_items is ≡ Some (item (string s) no_items)) × (of_members fs no_members ≡ Some ms) × AreChildFields fields ms
IsStage Stage.Ended es room frames = ⊥

-- ---- the values that a stage awaits

-- no list is passed by as a member's value, and no object as the item behind a text
abbrev pub FitsListed : Listed → Data → Type 0
FitsListed Listed.Text d = as_object d ≡ None
FitsListed _ d = ⊤

abbrev pub Fits : Stage → Data → Type 0
Fits (Stage.Member key) d = fields_of d ≡ None
Fits (Stage.Pair key listed) d = FitsListed listed d
Fits (Stage.Field key fields name) d = ⊤
Fits _ d = ⊥

-- the same by the first token
abbrev pub ends_array : Token → Bool
ends_array Token.end_array = true
ends_array _ = false

abbrev pub is_one_text : Listed → Bool
is_one_text Listed.Text = true
is_one_text _ = false

abbrev pub FirstListed : Listed → Token → Type 0
FirstListed Listed.Text t = (ends_array t ≡ false) × (begins_object t ≡ false)
FirstListed _ t = ends_array t ≡ false

abbrev pub FitsFirst : Stage → Token → Type 0
FitsFirst (Stage.Member key) t = begins_array t ≡ false
FitsFirst (Stage.Pair key listed) t = FirstListed listed t
FitsFirst (Stage.Field key fields name) t = ⊤
FitsFirst _ t = ⊥

-- and by whether it is an object
abbrev pub FitsKind : Stage → Bool → Type 0
FitsKind (Stage.Member key) is = is ≡ true
FitsKind (Stage.Pair key Listed.Text) is = is ≡ false
FitsKind (Stage.Pair key listed) is = ⊤
FitsKind (Stage.Field key fields name) is = ⊤
FitsKind _ is = ⊥

abbrev pub object_has_ended : Stage → Bool
object_has_ended Stage.Ended = true
object_has_ended _ = false

-- ---- how far a reader is

-- a value is under way in what is open
pub record IsAround (room : ℕ) (frames : List Frame) (es : List Outcome) (stage : Stage) (value : UnderWay) : Type 0 where
  pub levels : ℕ
  pub outer : List Frame
  pub inner : List Frame
  pub joined : frames ≡ inner ++ outer
  pub around : IsStage stage es levels outer
  pub fits : FitsKind stage value.object
  pub sum : length inner + room ≡ levels
  pub kind : outermost inner ≡ Some value.object
  pub follows : FollowsMachine (reading room inner) value.speller

-- the reader stands where the machine does
abbrev pub IsOn : StackState → List Outcome → Stage → Option UnderWay → Type 0
IsOn (reading room frames) es stage None = IsStage stage es room frames
IsOn (reading room frames) es stage (Some value) = IsAround room frames es stage value
IsOn (done j) es stage value = (js : json.Members) × (j ≡ json.object js) × (stage ≡ Stage.Ended) × (value ≡ None) × AreMembersMade es js
IsOn failed es stage value = ⊥

abbrev pub StandsAt : StackState → MemberReader → Type 0
StandsAt s reader = IsOn s reader.outcomes.items reader.stage reader.value

-- the tokens came so far, the first of which opens the object
abbrev pub IsReading : List Token → MemberReader → Type 0
IsReading ts reader = StandsAt (state_after (start_state max_depth) ts) reader
