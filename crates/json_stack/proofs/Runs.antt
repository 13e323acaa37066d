-- Tokens in pieces, and how much is open after them.
use Rattle.std.proofs.Common.{◌≡◌, ℕ, zero, suc, ◌+◌, List, [], ◌∷◌, ◌++◌, length, refl, subst, arith}
use Rattle.std.specs.Prelude.{⊤}
use Rattle.json.specs.Token.{Token}
use Rattle.json.specs.Json.{Json, null, boolean, number, string, array, object, no_items, no_members}
use Rattle.json_stack.specs.Machine.{Frame, in_array, in_object, in_member, StackState, reading, done, failed, value_ended, opened_frame, array_ended, object_ended, key_read, state_within, next_state, state_after, start_state}

pub state_after-append : (s : StackState) (front back : List Token) → state_after s (front ++ back) ≡ state_after (state_after s front) back
unfolding state_after
state_after-append s [] back = refl
state_after-append s (t ∷ front) back = state_after-append (next_state s t) front back

pub failed_stays : (ts : List Token) → state_after failed ts ≡ failed
unfolding state_after
failed_stays [] = refl
failed_stays (t ∷ ts) = failed_stays ts

pub done_is_last : (j : Json) (t : Token) (ts : List Token) → state_after (done j) (t ∷ ts) ≡ failed
unfolding state_after
done_is_last j t ts = failed_stays ts

-- while a value is read, what is open and what is left are so many
abbrev HasLevels : ℕ → StackState → Type 0
HasLevels depth (reading room frames) = length frames + room ≡ depth
HasLevels depth (done j) = ⊤
HasLevels depth failed = ⊤

ended_levels : (depth room : ℕ) (frames : List Frame) (j : Json) → length frames + room ≡ depth → HasLevels depth (value_ended room frames j)
ended_levels depth room [] j e = tt
ended_levels depth room (in_array js ∷ frames) j e = omega (arith, e)
ended_levels depth room (in_object ms ∷ frames) j e = tt
ended_levels depth room (in_member ms k ∷ frames) j e = omega (arith, e)

opened_levels : (depth room : ℕ) (frames : List Frame) (frame : Frame) → length frames + room ≡ depth → HasLevels depth (opened_frame room frames frame)
opened_levels depth zero frames frame e = tt
opened_levels depth (suc room) [] frame e = omega (arith, e)
opened_levels depth (suc room) (in_array js ∷ frames) frame e = omega (arith, e)
opened_levels depth (suc room) (in_object ms ∷ frames) frame e = tt
opened_levels depth (suc room) (in_member ms k ∷ frames) frame e = omega (arith, e)

array_levels : (depth room : ℕ) (frames : List Frame) → length frames + room ≡ depth → HasLevels depth (array_ended room frames)
array_levels depth room [] e = tt
array_levels depth room (in_array js ∷ frames) e = ended_levels depth (suc room) frames (array js) (omega (arith, e))
array_levels depth room (in_object ms ∷ frames) e = tt
array_levels depth room (in_member ms k ∷ frames) e = tt

object_levels : (depth room : ℕ) (frames : List Frame) → length frames + room ≡ depth → HasLevels depth (object_ended room frames)
object_levels depth room [] e = tt
object_levels depth room (in_array js ∷ frames) e = tt
object_levels depth room (in_object ms ∷ frames) e = ended_levels depth (suc room) frames (object ms) (omega (arith, e))
object_levels depth room (in_member ms k ∷ frames) e = tt

key_levels : (depth room : ℕ) (frames : List Frame) (k : List ℕ) → length frames + room ≡ depth → HasLevels depth (key_read room frames k)
key_levels depth room [] k e = tt
key_levels depth room (in_array js ∷ frames) k e = tt
key_levels depth room (in_object ms ∷ frames) k e = omega (arith, e)
key_levels depth room (in_member ms l ∷ frames) k e = tt

within_levels : (depth room : ℕ) (frames : List Frame) (t : Token) → length frames + room ≡ depth → HasLevels depth (state_within room frames t)
within_levels depth room frames Token.begin_object e = opened_levels depth room frames (in_object no_members) e
within_levels depth room frames Token.end_object e = object_levels depth room frames e
within_levels depth room frames Token.begin_array e = opened_levels depth room frames (in_array no_items) e
within_levels depth room frames Token.end_array e = array_levels depth room frames e
within_levels depth room frames (Token.key s) e = key_levels depth room frames s e
within_levels depth room frames (Token.string s) e = ended_levels depth room frames (string s) e
within_levels depth room frames (Token.number s) e = ended_levels depth room frames (number s) e
within_levels depth room frames (Token.boolean b) e = ended_levels depth room frames (boolean b) e
within_levels depth room frames Token.null e = ended_levels depth room frames null e
within_levels depth room frames Token.bad e = tt

next_levels : (depth : ℕ) (s : StackState) (t : Token) → HasLevels depth s → HasLevels depth (next_state s t)
next_levels depth (reading room frames) t e = within_levels depth room frames t e
next_levels depth (done j) t e = tt
next_levels depth failed t e = tt

after_levels : (depth : ℕ) (s : StackState) (ts : List Token) → HasLevels depth s → HasLevels depth (state_after s ts)
unfolding state_after
after_levels depth s [] e = e
after_levels depth s (t ∷ ts) e = after_levels depth (next_state s t) ts (next_levels depth s t e)

pub levels_are_bounded : (depth : ℕ) (ts : List Token) (room : ℕ) (frames : List Frame) → state_after (start_state depth) ts ≡ reading room frames → length frames + room ≡ depth
levels_are_bounded depth ts room frames e = subst (HasLevels depth) e (after_levels depth (start_state depth) ts (omega arith))
