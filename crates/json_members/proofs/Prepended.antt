-- The machine reads on from an object with members before as from one without, and they stand before those that follow.
use Rattle.std.proofs.Common.{◌≡◌, ℕ, zero, suc, List, [], ◌∷◌, Option, Some, refl, sym, ap, ◌∙◌}
use Rattle.std.specs.Prelude.{⊤, option_and_then}
use Rattle.json.specs.Token.{Token}
use Rattle.json.specs.Json.{Json, null, boolean, number, string, array, object, Members, no_items, no_members, member}
use Rattle.json_stack.specs.Machine.{Frame, in_array, in_object, in_member, members_and, StackState, reading, done, failed, value_ended, opened_frame, array_ended, object_ended, key_read, state_within, next_state, state_after, result_of}
use Rattle.json_members.specs.JoinedObjects.{members_before, some_members}
use Rattle.json_members.proofs.Outermost.{Lasting, OfFrames, OfState, next_in, after_in}

before_one : (ms ns : Members) (k : List ℕ) (j : Json) → members_and (members_before ms ns) k j ≡ members_before ms (members_and ns k j)
unfolding members_before members_and
before_one no_members ns k j = refl
before_one (member l i ms) ns k j = ap (λ m. member l i m) (before_one ms ns k j)

pub before_none : (ms : Members) → members_before ms no_members ≡ ms
unfolding members_before
before_none no_members = refl
before_none (member k j ms) = ap (λ m. member k j m) (before_none ms)

-- ---- an object with a member, or of which a key was read

abbrev HasSome : Members → Type 0
HasSome no_members = ⊥
HasSome (member k j ms) = ⊤

abbrev HasMember : Frame → Type 0
HasMember (in_array js) = ⊥
HasMember (in_object ms) = HasSome ms
HasMember (in_member ms k) = ⊤

abbrev IsSomeObject : Json → Type 0
IsSomeObject null = ⊥
IsSomeObject (boolean b) = ⊥
IsSomeObject (number s) = ⊥
IsSomeObject (string s) = ⊥
IsSomeObject (array js) = ⊥
IsSomeObject (object ms) = HasSome ms

and_some : (ms : Members) (k : List ℕ) (j : Json) → HasSome (members_and ms k j)
unfolding members_and
and_some no_members k j = tt
and_some (member l i ms) k j = tt

abbrev some_lasts : Lasting
some_lasts = record {
  kept = HasMember;
  ended = IsSomeObject;
  no_array = λ js h. h;
  value_behind = λ ms k j h. and_some ms k j;
  key_behind = λ ms k h. tt;
  end_behind = λ ms h. h;
}

-- ---- members before those of the outermost frame

module _ (first : Members) where
  abbrev with_first : Frame → Frame
  with_first (in_array js) = in_array js
  with_first (in_object ms) = in_object (members_before first ms)
  with_first (in_member ms k) = in_member (members_before first ms) k

  abbrev in_frames : List Frame → List Frame
  in_frames [] = []
  in_frames (frame ∷ []) = with_first frame ∷ []
  in_frames (frame ∷ next ∷ frames) = frame ∷ in_frames (next ∷ frames)

  abbrev in_value : Json → Json
  in_value null = null
  in_value (boolean b) = boolean b
  in_value (number s) = number s
  in_value (string s) = string s
  in_value (array js) = array js
  in_value (object ms) = object (members_before first ms)

  abbrev in_state : StackState → StackState
  in_state (reading room frames) = reading room (in_frames frames)
  in_state (done j) = done (in_value j)
  in_state failed = failed

  abbrev IsOpen : List Frame → Type 0
  IsOpen frames = OfFrames some_lasts frames

  ended_same : (room : ℕ) (frames : List Frame) (j : Json) → IsOpen frames → value_ended room (in_frames frames) j ≡ in_state (value_ended room frames j)
  ended_same room [] j h = absurd h
  ended_same room (in_array js ∷ []) j h = absurd h
  ended_same room (in_object ms ∷ []) j h = refl
  ended_same room (in_member ms k ∷ []) j h = ap (λ m. reading room (in_object m ∷ [])) (before_one first ms k j)
  ended_same room (in_array js ∷ next ∷ frames) j h = refl
  ended_same room (in_object ms ∷ next ∷ frames) j h = refl
  ended_same room (in_member ms k ∷ next ∷ frames) j h = refl

  opened_same : (room : ℕ) (frames : List Frame) (frame : Frame) → IsOpen frames → opened_frame room (in_frames frames) frame ≡ in_state (opened_frame room frames frame)
  opened_same zero frames frame h = refl
  opened_same (suc room) [] frame h = absurd h
  opened_same (suc room) (in_array js ∷ []) frame h = absurd h
  opened_same (suc room) (in_object ms ∷ []) frame h = refl
  opened_same (suc room) (in_member ms k ∷ []) frame h = refl
  opened_same (suc room) (in_array js ∷ next ∷ frames) frame h = refl
  opened_same (suc room) (in_object ms ∷ next ∷ frames) frame h = refl
  opened_same (suc room) (in_member ms k ∷ next ∷ frames) frame h = refl

  array_same : (room : ℕ) (frames : List Frame) → IsOpen frames → array_ended room (in_frames frames) ≡ in_state (array_ended room frames)
  array_same room [] h = absurd h
  array_same room (in_array js ∷ []) h = absurd h
  array_same room (in_object ms ∷ []) h = refl
  array_same room (in_member ms k ∷ []) h = refl
  array_same room (in_array js ∷ next ∷ frames) h = ended_same (suc room) (next ∷ frames) (array js) h
  array_same room (in_object ms ∷ next ∷ frames) h = refl
  array_same room (in_member ms k ∷ next ∷ frames) h = refl

  object_same : (room : ℕ) (frames : List Frame) → IsOpen frames → object_ended room (in_frames frames) ≡ in_state (object_ended room frames)
  object_same room [] h = absurd h
  object_same room (in_array js ∷ []) h = absurd h
  object_same room (in_object ms ∷ []) h = refl
  object_same room (in_member ms k ∷ []) h = refl
  object_same room (in_array js ∷ next ∷ frames) h = refl
  object_same room (in_object ms ∷ next ∷ frames) h = ended_same (suc room) (next ∷ frames) (object ms) h
  object_same room (in_member ms k ∷ next ∷ frames) h = refl

  key_same : (room : ℕ) (frames : List Frame) (k : List ℕ) → IsOpen frames → key_read room (in_frames frames) k ≡ in_state (key_read room frames k)
  key_same room [] k h = absurd h
  key_same room (in_array js ∷ []) k h = absurd h
  key_same room (in_object ms ∷ []) k h = refl
  key_same room (in_member ms l ∷ []) k h = refl
  key_same room (in_array js ∷ next ∷ frames) k h = refl
  key_same room (in_object ms ∷ next ∷ frames) k h = refl
  key_same room (in_member ms l ∷ next ∷ frames) k h = refl

  within_same : (room : ℕ) (frames : List Frame) (t : Token) → IsOpen frames → state_within room (in_frames frames) t ≡ in_state (state_within room frames t)
  within_same room frames Token.begin_object h = opened_same room frames (in_object no_members) h
  within_same room frames Token.end_object h = object_same room frames h
  within_same room frames Token.begin_array h = opened_same room frames (in_array no_items) h
  within_same room frames Token.end_array h = array_same room frames h
  within_same room frames (Token.key s) h = key_same room frames s h
  within_same room frames (Token.string s) h = ended_same room frames (string s) h
  within_same room frames (Token.number s) h = ended_same room frames (number s) h
  within_same room frames (Token.boolean b) h = ended_same room frames (boolean b) h
  within_same room frames Token.null h = ended_same room frames null h
  within_same room frames Token.bad h = refl

  next_same : (s : StackState) (t : Token) → OfState some_lasts s → next_state (in_state s) t ≡ in_state (next_state s t)
  next_same (reading room frames) t h = within_same room frames t h
  next_same (done j) t h = refl
  next_same failed t h = refl

  after_same : (s : StackState) (ts : List Token) → OfState some_lasts s → state_after (in_state s) ts ≡ in_state (state_after s ts)
  unfolding state_after
  after_same s [] h = refl
  after_same s (t ∷ ts) h = ap (λ u. state_after u ts) (next_same s t h) ∙ after_same (next_state s t) ts (next_in some_lasts s t h)

-- ---- the value that is read

abbrev prepended : Members → Option Json → Option Json
prepended first o = option_and_then (λ ns. Some (object (members_before first ns))) (option_and_then some_members o)

value_same : (first : Members) (j : Json) → IsSomeObject j → Some (in_value first j) ≡ prepended first (Some j)
value_same first null h = absurd h
value_same first (boolean b) h = absurd h
value_same first (number s) h = absurd h
value_same first (string s) h = absurd h
value_same first (array js) h = absurd h
value_same first (object no_members) h = absurd h
value_same first (object (member k j ms)) h = refl

result_same : (first : Members) (s : StackState) → OfState some_lasts s → result_of (in_state first s) ≡ prepended first (result_of s)
result_same first (reading room frames) h = refl
result_same first (done j) h = value_same first j h
result_same first failed h = refl

pub behind_key : (first : Members) (room : ℕ) (k : List ℕ) (ts : List Token)
    → result_of (state_after (reading room (in_member first k ∷ [])) ts) ≡ prepended first (result_of (state_after (reading room (in_member no_members k ∷ [])) ts))
behind_key first room k ts =
    let s = reading room (in_member no_members k ∷ []) in
    ap (λ m. result_of (state_after (reading room (in_member m k ∷ [])) ts)) (sym (before_none first))
    ∙ ap result_of (after_same first s ts tt)
    ∙ result_same first (state_after s ts) (after_in some_lasts s ts tt)
