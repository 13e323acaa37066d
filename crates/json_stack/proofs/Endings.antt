-- A value that is being read can be brought to its end.
use Rattle.std.proofs.Common.{◌≡◌, ℕ, zero, suc, List, [], ◌∷◌, ◌++◌, Some, None, refl, ap, ◌∙◌, subst}
use Rattle.std.specs.Prelude.{⊤}
use Rattle.json.specs.Token.{Token}
use Rattle.json.specs.Json.{Json, null, boolean, number, string, array, object, no_items, no_members}
use Rattle.json_stack.specs.Machine.{items_and, members_and, Frame, in_array, in_object, in_member, StackState, reading, done, failed, value_ended, opened_frame, array_ended, object_ended, key_read, state_within, next_state, state_after, start_state, result_of, whole_value}
use Rattle.json_stack.proofs.Reading.{machine_reads}
use Rattle.json_stack.proofs.Runs.{state_after-append, failed_stays}

-- each frame awaits a value
abbrev AllAwait : List Frame → Type 0
AllAwait [] = ⊤
AllAwait (in_array js ∷ frames) = AllAwait frames
AllAwait (in_object ms ∷ frames) = ⊥
AllAwait (in_member ms k ∷ frames) = AllAwait frames

-- each one but the innermost
abbrev OthersAwait : List Frame → Type 0
OthersAwait [] = ⊤
OthersAwait (frame ∷ frames) = AllAwait frames

abbrev IsNested : StackState → Type 0
IsNested (reading room frames) = OthersAwait frames
IsNested (done j) = ⊤
IsNested failed = ⊤

others : (frames : List Frame) → AllAwait frames → OthersAwait frames
others [] all = tt
others (in_array js ∷ frames) all = all
others (in_object ms ∷ frames) all = absurd all
others (in_member ms k ∷ frames) all = all

ended_nested : (room : ℕ) (frames : List Frame) (j : Json) → OthersAwait frames → IsNested (value_ended room frames j)
ended_nested room [] j h = tt
ended_nested room (in_array js ∷ frames) j h = h
ended_nested room (in_object ms ∷ frames) j h = tt
ended_nested room (in_member ms k ∷ frames) j h = h

opened_nested : (room : ℕ) (frames : List Frame) (frame : Frame) → OthersAwait frames → IsNested (opened_frame room frames frame)
opened_nested zero frames frame h = tt
opened_nested (suc room) [] frame h = tt
opened_nested (suc room) (in_array js ∷ frames) frame h = h
opened_nested (suc room) (in_object ms ∷ frames) frame h = tt
opened_nested (suc room) (in_member ms k ∷ frames) frame h = h

array_nested : (room : ℕ) (frames : List Frame) → OthersAwait frames → IsNested (array_ended room frames)
array_nested room [] h = tt
array_nested room (in_array js ∷ frames) h = ended_nested (suc room) frames (array js) (others frames h)
array_nested room (in_object ms ∷ frames) h = tt
array_nested room (in_member ms k ∷ frames) h = tt

object_nested : (room : ℕ) (frames : List Frame) → OthersAwait frames → IsNested (object_ended room frames)
object_nested room [] h = tt
object_nested room (in_array js ∷ frames) h = tt
object_nested room (in_object ms ∷ frames) h = ended_nested (suc room) frames (object ms) (others frames h)
object_nested room (in_member ms k ∷ frames) h = tt

key_nested : (room : ℕ) (frames : List Frame) (k : List ℕ) → OthersAwait frames → IsNested (key_read room frames k)
key_nested room [] k h = tt
key_nested room (in_array js ∷ frames) k h = tt
key_nested room (in_object ms ∷ frames) k h = h
key_nested room (in_member ms l ∷ frames) k h = tt

within_nested : (room : ℕ) (frames : List Frame) (t : Token) → OthersAwait frames → IsNested (state_within room frames t)
within_nested room frames Token.begin_object h = opened_nested room frames (in_object no_members) h
within_nested room frames Token.end_object h = object_nested room frames h
within_nested room frames Token.begin_array h = opened_nested room frames (in_array no_items) h
within_nested room frames Token.end_array h = array_nested room frames h
within_nested room frames (Token.key s) h = key_nested room frames s h
within_nested room frames (Token.string s) h = ended_nested room frames (string s) h
within_nested room frames (Token.number s) h = ended_nested room frames (number s) h
within_nested room frames (Token.boolean b) h = ended_nested room frames (boolean b) h
within_nested room frames Token.null h = ended_nested room frames null h
within_nested room frames Token.bad h = tt

next_nested : (s : StackState) (t : Token) → IsNested s → IsNested (next_state s t)
next_nested (reading room frames) t h = within_nested room frames t h
next_nested (done j) t h = tt
next_nested failed t h = tt

after_nested : (s : StackState) (ts : List Token) → IsNested s → IsNested (state_after s ts)
unfolding state_after
after_nested s [] h = h
after_nested s (t ∷ ts) h = after_nested (next_state s t) ts (next_nested s t h)

-- ---- tokens that end it

record Ending (s : StackState) : Type 0 where
  pub tokens : List Token
  pub json : Json
  pub is : state_after s tokens ≡ done json

begun_by : (s : StackState) (t : Token) → Ending (next_state s t) → Ending s
unfolding state_after
begun_by s t e = record { tokens = t ∷ e.tokens; json = e.json; is = e.is }

ended_ends : (room : ℕ) (frames : List Frame) (j : Json) → AllAwait frames → Ending (value_ended room frames j)
unfolding state_after
ended_ends room [] j all = record { tokens = []; json = j; is = refl }
ended_ends room (in_array js ∷ frames) j all = begun_by (reading room (in_array (items_and js j) ∷ frames)) Token.end_array (ended_ends (suc room) frames (array (items_and js j)) all)
ended_ends room (in_object ms ∷ frames) j all = absurd all
ended_ends room (in_member ms k ∷ frames) j all = begun_by (reading room (in_object (members_and ms k j) ∷ frames)) Token.end_object (ended_ends (suc room) frames (object (members_and ms k j)) all)

reading_ends : (room : ℕ) (frames : List Frame) → OthersAwait frames → Ending (reading room frames)
reading_ends room [] h = begun_by (reading room []) Token.null (ended_ends room [] null tt)
reading_ends room (in_array js ∷ frames) h = begun_by (reading room (in_array js ∷ frames)) Token.end_array (ended_ends (suc room) frames (array js) h)
reading_ends room (in_object ms ∷ frames) h = begun_by (reading room (in_object ms ∷ frames)) Token.end_object (ended_ends (suc room) frames (object ms) h)
reading_ends room (in_member ms k ∷ frames) h = begun_by (reading room (in_member ms k ∷ frames)) Token.null (ended_ends room (in_member ms k ∷ frames) null h)

pub goes_on : (depth : ℕ) (front : List Token) (room : ℕ) (frames : List Frame) → state_after (start_state depth) front ≡ reading room frames → (back : List Token) × (j : Json) × (whole_value depth (front ++ back) ≡ Some j)
goes_on depth front room frames e =
    let ending = reading_ends room frames (subst IsNested e (after_nested (start_state depth) front tt)) in
    (ending.tokens, ending.json, machine_reads depth (front ++ ending.tokens) ∙ ap result_of (state_after-append (start_state depth) front ending.tokens ∙ ap (λ s. state_after s ending.tokens) e ∙ ending.is))

pub fails_for_good : (depth : ℕ) (front back : List Token) → state_after (start_state depth) front ≡ failed → whole_value depth (front ++ back) ≡ None
fails_for_good depth front back e = machine_reads depth (front ++ back) ∙ ap result_of (state_after-append (start_state depth) front back ∙ ap (λ s. state_after s back) e ∙ failed_stays back)
