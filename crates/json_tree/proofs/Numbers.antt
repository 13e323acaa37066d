-- Numbers, and the states that those that are none lead to.
use Rattle.std.proofs.Common.{◌≡◌, ℕ, zero, suc, List, [], ◌∷◌, get_or, drop, Bool, true, false, if◌then◌else◌, ◌==◌, ◌&&◌, Option, Some, None, option_map, option_and_then, is_some, refl, sym, ap, ap₂, ◌∙◌}
use Rattle.std.proofs.lemmas.Bool.{false≢true, and_parts}
use Rattle.fast_float.specs.Text.{scan}
use Rattle.json.specs.Token.{Token}
use Rattle.json.specs.Json as json
use Rattle.json.specs.Json.{Json}
use Rattle.json_stack.specs.Machine.{Frame, in_array, in_object, in_member, StackState, reading, done, failed, awaits_value, value_ended, opened_frame, array_ended, object_ended, key_read, state_within, next_state, state_after, result_of}
use Rattle.serde_json.specs.Data.{Data, number, array, object, no_members, put}
use Rattle.serde_json.specs.Read.{number_of, number_from, of_json, of_items, of_members}
use Rattle.json_tree.specs.Builders.{HasNoValueWith}
use Rattle.json_tree.specs.declared.builder.TreeBuilder.{TreeBuilder}
use Rattle.json_tree.proofs.Ends.{items_last, of_items-items_and, of_members-members_and}

pub signed_number : (s : List ℕ) → (get_or s 0 0 == 45) ≡ true → (text : List ℕ) → s ≡ text → number_from true (scan (drop 1 s)) ≡ number_of text
unfolding number_of
signed_number s minus text same = let read : number_from true (scan (drop 1 s)) ≡ number_of s = rw minus in read ∙ ap number_of same

pub unsigned_number : (s : List ℕ) → (get_or s 0 0 == 45) ≡ false → (text : List ℕ) → s ≡ text → number_from false (scan s) ≡ number_of text
unfolding number_of
unsigned_number s none text same = let read : number_from false (scan s) ≡ number_of s = rw none in read ∙ ap number_of same

-- ---- a number that is none

abbrev has_data : Frame → Bool
has_data (in_array js) = is_some (of_items js)
has_data (in_object js) = is_some (of_members js no_members)
has_data (in_member js k) = is_some (of_members js no_members)

abbrev all_data : List Frame → Bool
all_data [] = true
all_data (frame ∷ frames) = has_data frame && all_data frames

abbrev state_data : StackState → Bool
state_data (reading room frames) = all_data frames
state_data (done j) = is_some (of_json j)
state_data failed = false

both_some : {A : Type 0} (f : A → Data → A) (a : Option A) (o : Option Data) → is_some (option_and_then (λ x. option_map (f x) o) a) ≡ true → (is_some a ≡ true) × (is_some o ≡ true)
both_some f None o is = absurd (false≢true is)
both_some f (Some x) None is = absurd (false≢true is)
both_some f (Some x) (Some d) is = (refl, refl)

mapped_some : {A : Type 0} (f : A → Data) (a : Option A) → is_some (option_map f a) ≡ true → is_some a ≡ true
mapped_some f None is = absurd (false≢true is)
mapped_some f (Some x) is = refl

both_true : (a b : Bool) → a ≡ true → b ≡ true → (a && b) ≡ true
both_true a b is also = ap₂ (λ p q. p && q) is also

value_has : (room : ℕ) (frames : List Frame) (j : Json) → state_data (value_ended room frames j) ≡ true → (all_data frames ≡ true) × (is_some (of_json j) ≡ true)
value_has room [] j is = (refl, is)
value_has room (in_array js ∷ frames) j is =
    let parts = and_parts _ _ is in
    let some = both_some items_last (of_items js) (of_json j) (sym (ap is_some (of_items-items_and js j)) ∙ parts.0) in
    (both_true _ _ some.0 parts.1, some.1)
value_has room (in_object js ∷ frames) j is = absurd (false≢true is)
value_has room (in_member js k ∷ frames) j is =
    let parts = and_parts _ _ is in
    let some = both_some (λ ms d. put k d ms) (of_members js no_members) (of_json j) (sym (ap is_some (of_members-members_and js k j no_members)) ∙ parts.0) in
    (both_true _ _ some.0 parts.1, some.1)

if_has : (b : Bool) (room : ℕ) (frame : Frame) (frames : List Frame) → state_data (if b then reading room (frame ∷ frames) else failed) ≡ true → all_data frames ≡ true
if_has true room frame frames is = (and_parts _ _ is).1
if_has false room frame frames is = absurd (false≢true is)

opened_has : (room : ℕ) (frames : List Frame) (frame : Frame) → state_data (opened_frame room frames frame) ≡ true → all_data frames ≡ true
opened_has zero frames frame is = absurd (false≢true is)
opened_has (suc room) frames frame is = if_has (awaits_value frames) room frame frames is

array_has : (room : ℕ) (frames : List Frame) → state_data (array_ended room frames) ≡ true → all_data frames ≡ true
array_has room [] is = absurd (false≢true is)
array_has room (in_array js ∷ frames) is =
    let both = value_has (suc room) frames (json.array js) is in
    both_true _ _ (mapped_some array (of_items js) both.1) both.0
array_has room (in_object js ∷ frames) is = absurd (false≢true is)
array_has room (in_member js k ∷ frames) is = absurd (false≢true is)

object_has : (room : ℕ) (frames : List Frame) → state_data (object_ended room frames) ≡ true → all_data frames ≡ true
object_has room [] is = absurd (false≢true is)
object_has room (in_array js ∷ frames) is = absurd (false≢true is)
object_has room (in_object js ∷ frames) is =
    let both = value_has (suc room) frames (json.object js) is in
    both_true _ _ (mapped_some object (of_members js no_members) both.1) both.0
object_has room (in_member js k ∷ frames) is = absurd (false≢true is)

key_has : (room : ℕ) (frames : List Frame) (k : List ℕ) → state_data (key_read room frames k) ≡ true → all_data frames ≡ true
key_has room [] k is = absurd (false≢true is)
key_has room (in_array js ∷ frames) k is = absurd (false≢true is)
key_has room (in_object js ∷ frames) k is = is
key_has room (in_member js l ∷ frames) k is = absurd (false≢true is)

within_has : (room : ℕ) (frames : List Frame) (t : Token) → state_data (state_within room frames t) ≡ true → all_data frames ≡ true
within_has room frames Token.begin_object is = opened_has room frames (in_object json.no_members) is
within_has room frames Token.end_object is = object_has room frames is
within_has room frames Token.begin_array is = opened_has room frames (in_array json.no_items) is
within_has room frames Token.end_array is = array_has room frames is
within_has room frames (Token.key s) is = key_has room frames s is
within_has room frames (Token.string s) is = (value_has room frames (json.string s) is).0
within_has room frames (Token.number s) is = (value_has room frames (json.number s) is).0
within_has room frames (Token.boolean b) is = (value_has room frames (json.boolean b) is).0
within_has room frames Token.null is = (value_has room frames json.null is).0
within_has room frames Token.bad is = absurd (false≢true is)

next_has : (s : StackState) (t : Token) → state_data (next_state s t) ≡ true → state_data s ≡ true
next_has (reading room frames) t is = within_has room frames t is
next_has (done j) t is = absurd (false≢true is)
next_has failed t is = is

after_has : (s : StackState) (ts : List Token) → state_data (state_after s ts) ≡ true → state_data s ≡ true
unfolding state_after
after_has s [] is = is
after_has s (t ∷ ts) is = next_has s t (after_has (next_state s t) ts is)

result_has : (s : StackState) → is_some (option_and_then of_json (result_of s)) ≡ true → state_data s ≡ true
result_has (reading room frames) is = absurd (false≢true is)
result_has (done j) is = is
result_has failed is = is

none_if : (o : Option Data) → (is_some o ≡ true → ⊥) → o ≡ None
none_if None never = refl
none_if (Some d) never = absurd (never refl)

number_has : (s : List ℕ) (r : StackState) → number_of s ≡ None → state_data (next_state r (Token.number s)) ≡ true → ⊥
number_has s (reading room frames) none is = false≢true (sym (ap (λ o. is_some (option_map number o)) none) ∙ (value_has room frames (json.number s) is).1)
number_has s (done j) none is = false≢true is
number_has s failed none is = false≢true is

pub number_refused : (text : List ℕ) → number_of text ≡ None → (old : TreeBuilder) → HasNoValueWith old (Token.number text)
number_refused text none old s at more =
    none_if (option_and_then of_json (result_of (state_after (next_state s (Token.number text)) more)))
    (λ some. number_has text s none (after_has (next_state s (Token.number text)) more (result_has (state_after (next_state s (Token.number text)) more) some)))
