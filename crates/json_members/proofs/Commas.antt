-- What a comma meets behind the tokens of an object.
use Rattle.std.proofs.Common.{◌≡◌, ℕ, zero, suc, List, [], ◌∷◌, Option, Some, None, refl, fold}
use Rattle.std.specs.Prelude.{⊤}
use Rattle.json.specs.Token.{Token, bad}
use Rattle.json.specs.Json.{Json, null, boolean, number, string, array, object, Members, no_items, no_members, member}
use Rattle.json_seams.specs.Seams.{last_token, behind_comma, from_comma}
use Rattle.json_stack.specs.Machine.{Frame, in_array, in_object, in_member, members_and, StackState, reading, done, failed, value_ended, opened_frame, array_ended, object_ended, key_read, state_within, next_state, state_after}

abbrev IsFault : Option Token → Type 0
IsFault last = (rest : List Token) → from_comma last rest ≡ bad ∷ []

abbrev IsValueBefore : Option Token → Type 0
IsValueBefore last = (rest : List Token) → from_comma last rest ≡ behind_comma rest

-- what a comma meets in that frame, where that token is the last
abbrev pub MeetsIn : Frame → Option Token → Type 0
MeetsIn (in_array js) last = ⊤
MeetsIn (in_object no_members) last = IsFault last
MeetsIn (in_object (member k j ms)) last = IsValueBefore last
MeetsIn (in_member ms k) last = IsFault last

abbrev pub Meets : StackState → Option Token → Type 0
Meets (reading room []) last = ⊤
Meets (reading room (frame ∷ frames)) last = MeetsIn frame last
Meets (done j) last = ⊤
Meets failed last = ⊤

and_meets : (ms : Members) (k : List ℕ) (j : Json) (last : Option Token) → IsValueBefore last → MeetsIn (in_object (members_and ms k j)) last
unfolding members_and
and_meets no_members k j last h = h
and_meets (member l i ms) k j last h = h

ended_meets : (room : ℕ) (frames : List Frame) (j : Json) (last : Option Token) → IsValueBefore last → Meets (value_ended room frames j) last
ended_meets room [] j last h = tt
ended_meets room (in_array js ∷ frames) j last h = tt
ended_meets room (in_object ms ∷ frames) j last h = tt
ended_meets room (in_member ms k ∷ frames) j last h = and_meets ms k j last h

opened_meets : (room : ℕ) (frames : List Frame) (frame : Frame) (last : Option Token) → MeetsIn frame last → Meets (opened_frame room frames frame) last
opened_meets zero frames frame last h = tt
opened_meets (suc room) [] frame last h = h
opened_meets (suc room) (in_array js ∷ frames) frame last h = h
opened_meets (suc room) (in_object ms ∷ frames) frame last h = tt
opened_meets (suc room) (in_member ms k ∷ frames) frame last h = h

array_meets : (room : ℕ) (frames : List Frame) (last : Option Token) → IsValueBefore last → Meets (array_ended room frames) last
array_meets room [] last h = tt
array_meets room (in_array js ∷ frames) last h = ended_meets (suc room) frames (array js) last h
array_meets room (in_object ms ∷ frames) last h = tt
array_meets room (in_member ms k ∷ frames) last h = tt

object_meets : (room : ℕ) (frames : List Frame) (last : Option Token) → IsValueBefore last → Meets (object_ended room frames) last
object_meets room [] last h = tt
object_meets room (in_array js ∷ frames) last h = tt
object_meets room (in_object ms ∷ frames) last h = ended_meets (suc room) frames (object ms) last h
object_meets room (in_member ms k ∷ frames) last h = tt

key_meets : (room : ℕ) (frames : List Frame) (k : List ℕ) (last : Option Token) → IsFault last → Meets (key_read room frames k) last
key_meets room [] k last h = tt
key_meets room (in_array js ∷ frames) k last h = tt
key_meets room (in_object ms ∷ frames) k last h = h
key_meets room (in_member ms l ∷ frames) k last h = tt

within_meets : (room : ℕ) (frames : List Frame) (t : Token) → Meets (state_within room frames t) (Some t)
within_meets room frames Token.begin_object = opened_meets room frames (in_object no_members) _ (λ r. refl)
within_meets room frames Token.end_object = object_meets room frames _ (λ r. refl)
within_meets room frames Token.begin_array = opened_meets room frames (in_array no_items) _ tt
within_meets room frames Token.end_array = array_meets room frames _ (λ r. refl)
within_meets room frames (Token.key s) = key_meets room frames s _ (λ r. refl)
within_meets room frames (Token.string s) = ended_meets room frames (string s) _ (λ r. refl)
within_meets room frames (Token.number s) = ended_meets room frames (number s) _ (λ r. refl)
within_meets room frames (Token.boolean b) = ended_meets room frames (boolean b) _ (λ r. refl)
within_meets room frames Token.null = ended_meets room frames null _ (λ r. refl)
within_meets room frames Token.bad = tt

next_meets : (s : StackState) (t : Token) → Meets (next_state s t) (Some t)
next_meets (reading room frames) t = within_meets room frames t
next_meets (done j) t = tt
next_meets failed t = tt

meets_from : (s : StackState) (last : Option Token) (ts : List Token) → Meets s last → Meets (state_after s ts) (fold (λ _ t. Some t) last ts)
unfolding state_after
meets_from s last [] h = h
meets_from s last (t ∷ ts) h = meets_from (next_state s t) (Some t) ts (next_meets s t)

pub meets : (room : ℕ) (ts : List Token) → Meets (state_after (reading room []) ts) (last_token ts)
meets room ts = meets_from (reading room []) None ts tt
