-- What stays true of the outermost frame, while it is open.
use Rattle.std.proofs.Common.{ℕ, zero, suc, List, [], ◌∷◌}
use Rattle.std.specs.Prelude.{⊤}
use Rattle.json.specs.Token.{Token}
use Rattle.json.specs.Json.{Json, null, boolean, number, string, array, object, Items, Members, no_items, no_members}
use Rattle.json_stack.specs.Machine.{Frame, in_array, in_object, in_member, members_and, StackState, reading, done, failed, value_ended, opened_frame, array_ended, object_ended, key_read, state_within, next_state, state_after}

-- a property of a frame of an object that its next states have too, and what it says of the object
pub record Lasting : Type 1 where
  pub kept : Frame → Type 0
  pub ended : Json → Type 0
  pub no_array : (js : Items) → kept (in_array js) → ⊥
  pub value_behind : (ms : Members) (k : List ℕ) (j : Json) → kept (in_member ms k) → kept (in_object (members_and ms k j))
  pub key_behind : (ms : Members) (k : List ℕ) → kept (in_object ms) → kept (in_member ms k)
  pub end_behind : (ms : Members) → kept (in_object ms) → ended (object ms)

module _ (p : Lasting) where
  abbrev pub OfFrames : List Frame → Type 0
  OfFrames [] = ⊥
  OfFrames (frame ∷ []) = p.kept frame
  OfFrames (frame ∷ next ∷ frames) = OfFrames (next ∷ frames)

  abbrev pub OfState : StackState → Type 0
  OfState (reading room frames) = OfFrames frames
  OfState (done j) = p.ended j
  OfState failed = ⊤

  ended_in : (room : ℕ) (frames : List Frame) (j : Json) → OfFrames frames → OfState (value_ended room frames j)
  ended_in room [] j h = absurd h
  ended_in room (in_array js ∷ []) j h = absurd (p.no_array js h)
  ended_in room (in_object ms ∷ []) j h = tt
  ended_in room (in_member ms k ∷ []) j h = p.value_behind ms k j h
  ended_in room (in_array js ∷ next ∷ frames) j h = h
  ended_in room (in_object ms ∷ next ∷ frames) j h = tt
  ended_in room (in_member ms k ∷ next ∷ frames) j h = h

  opened_in : (room : ℕ) (frames : List Frame) (frame : Frame) → OfFrames frames → OfState (opened_frame room frames frame)
  opened_in zero frames frame h = tt
  opened_in (suc room) [] frame h = absurd h
  opened_in (suc room) (in_array js ∷ frames) frame h = h
  opened_in (suc room) (in_object ms ∷ frames) frame h = tt
  opened_in (suc room) (in_member ms k ∷ frames) frame h = h

  array_in : (room : ℕ) (frames : List Frame) → OfFrames frames → OfState (array_ended room frames)
  array_in room [] h = absurd h
  array_in room (in_array js ∷ []) h = absurd (p.no_array js h)
  array_in room (in_array js ∷ next ∷ frames) h = ended_in (suc room) (next ∷ frames) (array js) h
  array_in room (in_object ms ∷ frames) h = tt
  array_in room (in_member ms k ∷ frames) h = tt

  object_in : (room : ℕ) (frames : List Frame) → OfFrames frames → OfState (object_ended room frames)
  object_in room [] h = absurd h
  object_in room (in_array js ∷ frames) h = tt
  object_in room (in_object ms ∷ []) h = p.end_behind ms h
  object_in room (in_object ms ∷ next ∷ frames) h = ended_in (suc room) (next ∷ frames) (object ms) h
  object_in room (in_member ms k ∷ frames) h = tt

  key_in : (room : ℕ) (frames : List Frame) (k : List ℕ) → OfFrames frames → OfState (key_read room frames k)
  key_in room [] k h = absurd h
  key_in room (in_array js ∷ frames) k h = tt
  key_in room (in_object ms ∷ []) k h = p.key_behind ms k h
  key_in room (in_object ms ∷ next ∷ frames) k h = h
  key_in room (in_member ms l ∷ frames) k h = tt

  within_in : (room : ℕ) (frames : List Frame) (t : Token) → OfFrames frames → OfState (state_within room frames t)
  within_in room frames Token.begin_object h = opened_in room frames (in_object no_members) h
  within_in room frames Token.end_object h = object_in room frames h
  within_in room frames Token.begin_array h = opened_in room frames (in_array no_items) h
  within_in room frames Token.end_array h = array_in room frames h
  within_in room frames (Token.key s) h = key_in room frames s h
  within_in room frames (Token.string s) h = ended_in room frames (string s) h
  within_in room frames (Token.number s) h = ended_in room frames (number s) h
  within_in room frames (Token.boolean b) h = ended_in room frames (boolean b) h
  within_in room frames Token.null h = ended_in room frames null h
  within_in room frames Token.bad h = tt

  pub next_in : (s : StackState) (t : Token) → OfState s → OfState (next_state s t)
  next_in (reading room frames) t h = within_in room frames t h
  next_in (done j) t h = tt
  next_in failed t h = tt

  pub after_in : (s : StackState) (ts : List Token) → OfState s → OfState (state_after s ts)
  unfolding state_after
  after_in s [] h = h
  after_in s (t ∷ ts) h = after_in (next_state s t) ts (next_in s t h)
