-- What a judge keeps of a JSON value whose tokens come one at a time; for private clauses.
use Rattle.std.specs.Prelude.{◌≡◌, ⊤, ℕ, suc, ◌+◌, ◌-◌, List, [], ◌∷◌, length, reverse, map, Bool, true, false, not, ◌||◌, if◌then◌else◌, Some, None, option_and_then, is_some, string_bytes}
use Rattle.json.specs.Token.{Token}
use Rattle.json.specs.Json.{Json}
use Rattle.json_stack.specs.Machine.{Frame, StackState, reading, done, failed, opened_frame, next_state, state_after, start_state, result_of}
use Rattle.serde_json.specs.Data.{Data, Items, no_items, item, Members, no_members, member, put}
use Rattle.serde_json.specs.Find.{as_object}
use Rattle.serde_json.specs.Read.{of_json, max_depth}
use Rattle.json_spelling.specs.Metadata.{is_whole, is_metadata}
use Rattle.json_spelling.specs.Speller.{DataFrame, data_array, data_object, data_member, AreFrameData, items_with, awaits, with_value}
use Rattle.json_spelling.specs.declared.judge.Bracket.{Bracket}
use Rattle.json_spelling.specs.declared.judge.Judge.{Judge}
use Rattle.json_spelling.specs.declared.judge.Noted.{Noted}

-- ---- A value is unfit where a number in it is no whole one of 64 bits, or where it has more than so many levels.

-- whether an item is unfit
abbrev pub has_unfit : ℕ → Items → Bool
has_unfit levels no_items = false
has_unfit levels (item d ds) = not (is_whole d levels) || has_unfit levels ds

-- the keys of unfit values, in order
abbrev pub unfit_keys : ℕ → Members → List (List ℕ)
unfit_keys levels no_members = []
unfit_keys levels (member k d ms) = if is_whole d levels then unfit_keys levels ms else k ∷ unfit_keys levels ms

-- ---- what is kept of what is open

-- the keys whose values are known to be unfit
abbrev pub noted_keys : Noted → List (List ℕ)
noted_keys noted = map string_bytes noted.unfit.keys

-- where so many levels may stand in it
abbrev pub IsNoted : ℕ → DataFrame → Bracket → Type 0
IsNoted levels (data_array ds) (Bracket.Array unfit) = unfit ≡ has_unfit levels ds
IsNoted levels (data_object ms) (Bracket.Object noted) = noted_keys noted ≡ unfit_keys levels ms
IsNoted levels (data_member ms k) (Bracket.Member noted) = (noted_keys noted ≡ unfit_keys levels ms) × (string_bytes noted.key ≡ k)
IsNoted levels _ _ = ⊥

-- innermost first; of 100 levels each takes one
abbrev pub AreNoted : List DataFrame → List Bracket → Type 0
AreNoted [] [] = ⊤
AreNoted (f ∷ fs) (b ∷ bs) = IsNoted (100 - suc (length fs)) f b × AreNoted fs bs
AreNoted _ _ = ⊥

-- a judge stands where the machine does
abbrev pub IsJudgeAt : StackState → Judge → Type 0
IsJudgeAt (reading room frames) judge = (fs : List DataFrame) × AreFrameData frames fs × AreNoted fs (reverse judge.opened.items) × (length frames + room ≡ max_depth) × (judge.verdict ≡ None)
IsJudgeAt (done j) judge = (d : Data) × (of_json j ≡ Some d) × (judge.opened.items ≡ []) × (judge.verdict ≡ Some (is_metadata d))
IsJudgeAt failed judge = ⊥

-- ---- what comes

-- an object is innermost that awaits a key
abbrev pub awaits_key : List Bracket → Bool
awaits_key [] = false
awaits_key (Bracket.Array unfit ∷ bs) = false
awaits_key (Bracket.Object noted ∷ bs) = true
awaits_key (Bracket.Member noted ∷ bs) = false

-- an array or object opens
abbrev pub with_opened : StackState → Frame → StackState
with_opened (reading room frames) frame = opened_frame room frames frame
with_opened (done j) frame = failed
with_opened failed frame = failed

-- what is open, with the value that it awaits
abbrev pub frame_with : DataFrame → Data → DataFrame
frame_with (data_array ds) d = data_array (items_with ds d)
frame_with (data_object ms) d = data_object ms
frame_with (data_member ms k) d = data_object (put k d ms)

-- how many levels that may have
abbrev pub levels_left : StackState → ℕ
levels_left (reading room frames) = 100 - length frames
levels_left (done j) = 0
levels_left failed = 0

-- a value has ended where it was awaited: an object, or not, and one that is fit, or not
abbrev pub EndsValue : Judge → Bool → Bool → Judge → Type 0
EndsValue old object fit new =
    (s : StackState) (j : Json) (d : Data) → of_json j ≡ Some d → object ≡ is_some (as_object d) → fit ≡ is_whole d (levels_left s) → awaits s ≡ true → IsJudgeAt s old → IsJudgeAt (with_value s j) new

-- a judge goes on with a token as the machine does
abbrev pub JudgesToken : Judge → Token → Judge → Type 0
JudgesToken old t new = (s : StackState) → IsJudgeAt s old → IsJudgeAt (next_state s t) new

-- no tokens that go on so are a value
abbrev pub BarsToken : Judge → Token → Type 0
BarsToken old t = (s : StackState) → IsJudgeAt s old → (more : List Token) → option_and_then of_json (result_of (state_after (next_state s t) more)) ≡ None

-- these tokens came
abbrev pub HasJudged : List Token → Judge → Type 0
HasJudged ts judge = IsJudgeAt (state_after (start_state max_depth) ts) judge
