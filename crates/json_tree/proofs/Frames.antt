-- A builder follows the machine with a stack.
use Rattle.std.proofs.Common.{◌≡◌, ℕ, zero, suc, ◌+◌, ◌<◌, ◌≤◌, List, [], ◌∷◌, ◌++◌, length, reverse, Bool, true, false, if◌then◌else◌, Option, Some, None, option_map, option_and_then, string_bytes, string_cmp, String, Vec, BTreeMap, Global, refl, sym, ap, ap₂, ◌∙◌, subst, arith, rules}
use Rattle.std.specs.BTreeMap.{insert_entry}
use Rattle.std.specs.Prelude.{MatchOption}
use Rattle.std.proofs.lemmas.Bool.{false≢true, true≢false}
use Rattle.std.proofs.lemmas.List.{length-reverse}
use Rattle.json.specs.Token.{Token}
use Rattle.json.specs.Json as json
use Rattle.json.specs.Json.{Json}
use Rattle.json_stack.specs.Machine.{Frame, in_array, in_object, in_member, StackState, reading, done, failed, awaits_value, value_ended, opened_frame, array_ended, object_ended, key_read, state_within, next_state, state_after, result_of}
use Rattle.serde_json.specs.Data.{Data, null, boolean, number, string, array, object, Items, no_items, Members, no_members, put}
use Rattle.serde_json.specs.Read.{of_json, of_items, of_members}
use Rattle.serde_json.specs.View.{view, number_view, items_view, members_view}
use Rattle.serde_json.specs.declared.number.Number.{Number}
use Rattle.serde_json.specs.declared.value.Value as value
use Rattle.serde_json.specs.declared.value.Value.{Value, Array, Object, the_lemmas}
use Rattle.serde_json.proofs.Views.{view-Array, view-Object, members_view-insert_entry}
use Rattle.json_tree.specs.Builders.{HasFrame, HaveFrames, FollowsStack, FollowsToken, HasNoValueWith, StaysThere, is_due_at, state_within_frame, state_behind, frame_behind}
use Rattle.json_tree.specs.declared.builder.Opened.{Opened}
use Rattle.json_tree.specs.declared.builder.TreeBuilder.{TreeBuilder}
use Rattle.json_tree.proofs.Ends.{reverse_more, length_more, items_last, items_view-more, of_items-items_and, of_members-members_and}

-- ---- the kinds of frames

abbrev pub ForFrames : (List Frame → List Opened → Type 0) → Type 0
ForFrames P = (frames : List Frame) (os : List Opened) → HaveFrames frames os → P frames os

abbrev pub Around : (List Frame → List Opened → Type 0) → Type 0
Around P = (frames : List Frame) (os : List Opened) → awaits_value frames ≡ true → HaveFrames frames os → P frames os

abbrev pub ForArrays : (List Frame → List Opened → Type 0) → Type 0
ForArrays P = (js : json.Items) (items : Vec Value Global) → of_items js ≡ Some (items_view items.items) → Around (λ frames os. P (in_array js ∷ frames) (Opened.Array items ∷ os))

abbrev pub ForObjects : (List Frame → List Opened → Type 0) → Type 0
ForObjects P = (js : json.Members) (members : BTreeMap (String Global) Value) → of_members js no_members ≡ Some (members_view members.entries) → Around (λ frames os. P (in_object js ∷ frames) (Opened.Object members ∷ os))

abbrev pub ForMembers : (List Frame → List Opened → Type 0) → Type 0
ForMembers P = (js : json.Members) (k : List ℕ) (members : BTreeMap (String Global) Value) (key : String Global) → (of_members js no_members ≡ Some (members_view members.entries)) × (string_bytes key ≡ k)
    → Around (λ frames os. P (in_member js k ∷ frames) (Opened.Member members key ∷ os))

pub by_kind : (P : List Frame → List Opened → Type 0) → P [] [] → ForArrays P → ForObjects P → ForMembers P → ForFrames P
by_kind P none a o m [] [] have = none
by_kind P none a o m [] (x ∷ os) have = absurd have
by_kind P none a o m (frame ∷ frames) [] have = absurd have
by_kind P none a o m (in_array js ∷ frames) (Opened.Array items ∷ os) have = a js items have.0 frames os have.1 have.2
by_kind P none a o m (in_array js ∷ frames) (Opened.Object members ∷ os) have = absurd have.0
by_kind P none a o m (in_array js ∷ frames) (Opened.Member members key ∷ os) have = absurd have.0
by_kind P none a o m (in_object js ∷ frames) (Opened.Array items ∷ os) have = absurd have.0
by_kind P none a o m (in_object js ∷ frames) (Opened.Object members ∷ os) have = o js members have.0 frames os have.1 have.2
by_kind P none a o m (in_object js ∷ frames) (Opened.Member members key ∷ os) have = absurd have.0
by_kind P none a o m (in_member js k ∷ frames) (Opened.Array items ∷ os) have = absurd have.0
by_kind P none a o m (in_member js k ∷ frames) (Opened.Object members ∷ os) have = absurd have.0
by_kind P none a o m (in_member js k ∷ frames) (Opened.Member members key ∷ os) have = m js k members key have.0 frames os have.1 have.2

pub as_many : (frames : List Frame) (os : List Opened) → HaveFrames frames os → length frames ≡ length os
as_many [] [] have = refl
as_many [] (o ∷ os) have = absurd have
as_many (frame ∷ frames) [] have = absurd have
as_many (frame ∷ frames) (o ∷ os) have = omega (arith, as_many frames os have.2)

-- ---- a value is put into a frame

pub item_taken : (items : Vec Value Global) (value : Value) (new : Vec Value Global) → new.items ≡ items.items ++ value ∷ [] → (frame : Frame) (j : Json) → HasFrame frame (Opened.Array items) → of_json j ≡ Some (view value) → HasFrame (frame_behind frame j) (Opened.Array new)
item_taken items value new is (in_array js) j has read =
    of_items-items_and js j ∙ ap₂ (λ o i. option_and_then (λ ds. option_map (items_last ds) i) o) has read ∙ ap Some (sym (ap items_view is ∙ items_view-more items.items value))
item_taken items value new is (in_object js) j has read = absurd has
item_taken items value new is (in_member js k) j has read = absurd has

pub member_taken : (members : BTreeMap (String Global) Value) (key : String Global) (value : Value) (new : BTreeMap (String Global) Value) → new.entries ≡ insert_entry string_cmp members.entries key value → (frame : Frame) (j : Json) → HasFrame frame (Opened.Member members key) → of_json j ≡ Some (view value)
    → HasFrame (frame_behind frame j) (Opened.Object new)
member_taken members key value new is (in_array js) j has read = absurd has
member_taken members key value new is (in_object js) j has read = absurd has
member_taken members key value new is (in_member js k) j has read =
    of_members-members_and js k j no_members ∙ ap₂ (λ o i. option_and_then (λ ms. option_map (λ d. put k d ms) i) o) has.0 read ∙ ap (λ n. Some (put n (view value) (members_view members.entries))) (sym has.1)
    ∙ ap Some (sym (ap members_view is ∙ members_view-insert_entry members.entries key value))

abbrev pub Takes : Opened → Value → Opened → Type 0
Takes x value y = (frame : Frame) (j : Json) → HasFrame frame x → of_json j ≡ Some (view value) → HasFrame (frame_behind frame j) y

abbrev pub Keeps : Opened → Value → Opened → Value → Type 0
Keeps x value y refused = (refused ≡ value) × ((frame : Frame) → HasFrame frame x → HasFrame frame y)

pub taken_in : (x : Opened) (value : Value) (y : Opened) (refused : Option Value) → refused ≡ None → MatchOption refused (Takes x value y) (Keeps x value y) → Takes x value y
taken_in x value y None is takes = takes
taken_in x value y (Some v) is keeps = absurd cc

pub kept_out : (x : Opened) (value : Value) (y : Opened) (refused : Option Value) (v : Value) → refused ≡ Some v → MatchOption refused (Takes x value y) (Keeps x value y) → (frame : Frame) → HasFrame frame x → HasFrame frame y
kept_out x value y None v is takes = absurd cc
kept_out x value y (Some w) v is keeps = keeps.1

-- ---- a value ends

none_open : (room : ℕ) (j : Json) (value : Value) (builder : TreeBuilder) → builder.value ≡ Some value → builder.opened.items ≡ [] → of_json j ≡ Some (view value) → (frames : List Frame) → HaveFrames frames [] → FollowsStack (value_ended room frames j) builder
none_open room j value builder is empty read [] have = (value, is, read, empty)
none_open room j value builder is empty read (frame ∷ frames) have = absurd have

pub whole_ended : (value : Value) (old new : TreeBuilder) → old.opened.items ≡ [] → new.opened.items ≡ [] → new.value ≡ Some value → (s : StackState) (j : Json) → FollowsStack s old → is_due_at s ≡ true → of_json j ≡ Some (view value) → FollowsStack (state_behind s j) new
whole_ended value old new was now is (reading room frames) j at here read = none_open room j value new is now read frames (subst (λ os. HaveFrames frames (reverse os)) was at.0)
whole_ended value old new was now is (done i) j at here read = absurd (false≢true here)
whole_ended value old new was now is failed j at here read = absurd at

innermost_ended : (room : ℕ) (frame : Frame) (frames : List Frame) (j : Json) → awaits_value (frame ∷ frames) ≡ true → value_ended room (frame ∷ frames) j ≡ reading room (frame_behind frame j ∷ frames)
innermost_ended room (in_array js) frames j here = refl
innermost_ended room (in_object js) frames j here = absurd (false≢true here)
innermost_ended room (in_member js k) frames j here = refl

pub ended_within : (value : Value) (old new : TreeBuilder) (rest : List Opened) (x y : Opened) → ((frame : Frame) (j : Json) → HasFrame frame x → of_json j ≡ Some (view value) → HasFrame (frame_behind frame j) y)
    → old.opened.items ≡ rest ++ x ∷ [] → new.opened.items ≡ rest ++ y ∷ [] → new.value ≡ old.value → new.levels ≡ old.levels → (s : StackState) (j : Json) → FollowsStack s old → is_due_at s ≡ true → of_json j ≡ Some (view value) → FollowsStack (state_behind s j) new
ended_within value old new rest x y takes was now same kept (reading room frames) j at here read = inside frames (subst (λ os. HaveFrames frames os) (ap reverse was ∙ reverse_more rest x) at.0) here at.1
  where
    inside : (frames : List Frame) → HaveFrames frames (x ∷ reverse rest) → awaits_value frames ≡ true → length frames + room ≡ old.levels → FollowsStack (value_ended room frames j) new
    inside [] have here levels = absurd have
    inside (frame ∷ frames) have here levels =
        let those = subst (λ os. HaveFrames (frame_behind frame j ∷ frames) os) (sym (ap reverse now ∙ reverse_more rest y)) (takes frame j have.0 read, have.1, have.2) in
        subst (λ s. FollowsStack s new) (sym (innermost_ended room frame frames j here)) (those, omega (arith, levels, kept), same ∙ at.2)
ended_within value old new rest x y takes was now same kept (done i) j at here read = absurd (false≢true here)
ended_within value old new rest x y takes was now same kept failed j at here read = absurd at

-- ---- an array or object opens

opened_here : (room : ℕ) (frames : List Frame) (frame : Frame) → awaits_value frames ≡ true → opened_frame (suc room) frames frame ≡ reading room (frame ∷ frames)
opened_here room frames frame here = ap (λ b. if b then reading room (frame ∷ frames) else failed) here

pub frame_begun : (old new : TreeBuilder) (o : Opened) → ((s : StackState) → FollowsStack s old → true ≡ is_due_at s) → length old.opened.items < old.levels → new.opened.items ≡ old.opened.items ++ o ∷ [] → new.value ≡ old.value → new.levels ≡ old.levels
    → (s : StackState) (frame : Frame) → FollowsStack s old → HasFrame frame o → FollowsStack (state_within_frame s frame) new
frame_begun old new o due less grown same kept (reading zero frames) frame at has =
    let never : ⊥ = omega (arith, as_many frames (reverse old.opened.items) at.0, length-reverse old.opened.items, at.1, less) in absurd never
frame_begun old new o due less grown same kept (reading (suc room) frames) frame at has =
    let here = sym (due (reading (suc room) frames) at) in
    let those = subst (λ os. HaveFrames (frame ∷ frames) os) (sym (ap reverse grown ∙ reverse_more old.opened.items o)) (has, here, at.0) in
    subst (λ s. FollowsStack s new) (sym (opened_here room frames frame here)) (those, omega (arith, at.1, kept), same ∙ at.2)
frame_begun old new o due less grown same kept (done j) frame at has = absurd (true≢false (due (done j) at))
frame_begun old new o due less grown same kept failed frame at has = absurd at

no_frame : (room : ℕ) (frames : List Frame) (frame : Frame) → awaits_value frames ≡ false → opened_frame room frames frame ≡ failed
no_frame zero frames frame none = refl
no_frame (suc room) frames frame none = ap (λ b. if b then reading room (frame ∷ frames) else failed) none

pub none_due : (old : TreeBuilder) → ((s : StackState) → FollowsStack s old → false ≡ is_due_at s) → (s : StackState) (frame : Frame) → FollowsStack s old → state_within_frame s frame ≡ failed
none_due old none (reading room frames) frame at = no_frame room frames frame (sym (none (reading room frames) at))
none_due old none (done j) frame at = refl
none_due old none failed frame at = refl

pub too_deep : (old : TreeBuilder) → old.levels ≤ length old.opened.items → (s : StackState) (frame : Frame) → FollowsStack s old → state_within_frame s frame ≡ failed
too_deep old deep (reading zero frames) frame at = refl
too_deep old deep (reading (suc room) frames) frame at =
    let never : ⊥ = omega (arith, as_many frames (reverse old.opened.items) at.0, length-reverse old.opened.items, at.1, deep) in absurd never
too_deep old deep (done j) frame at = refl
too_deep old deep failed frame at = refl

no_value : (room : ℕ) (frames : List Frame) (j : Json) → awaits_value frames ≡ false → value_ended room frames j ≡ failed
no_value room [] j none = absurd (true≢false none)
no_value room (in_array js ∷ frames) j none = absurd (true≢false none)
no_value room (in_object ms ∷ frames) j none = refl
no_value room (in_member ms k ∷ frames) j none = absurd (true≢false none)

pub no_value_due : (old : TreeBuilder) → ((s : StackState) → FollowsStack s old → false ≡ is_due_at s) → (s : StackState) (j : Json) → FollowsStack s old → state_behind s j ≡ failed
no_value_due old none (reading room frames) j at = no_value room frames j (sym (none (reading room frames) at))
no_value_due old none (done i) j at = refl
no_value_due old none failed j at = refl

-- what was put back stands there: the same, or what has the same frame
pub put_back : (old new : TreeBuilder) (rest : List Opened) (x y : Opened) → ((frame : Frame) → HasFrame frame x → HasFrame frame y) → old.opened.items ≡ rest ++ x ∷ [] → new.opened.items ≡ rest ++ y ∷ [] → new.value ≡ old.value → new.levels ≡ old.levels → StaysThere old new
put_back old new rest x y has was now value kept (reading room frames) at =
    let those = subst (λ os. HaveFrames frames os) (ap reverse was ∙ reverse_more rest x) at.0 in
    (subst (λ os. HaveFrames frames os) (sym (ap reverse now ∙ reverse_more rest y)) (changed frames those), at.1 ∙ sym kept, value ∙ at.2)
  where
    changed : (frames : List Frame) → HaveFrames frames (x ∷ reverse rest) → HaveFrames frames (y ∷ reverse rest)
    changed [] have = have
    changed (frame ∷ frames) have = (has frame have.0, have.1, have.2)
put_back old new rest x y has was now value kept (done j) at = let never : ⊥ = omega (arith, ap length (sym was ∙ at.3), length_more rest x) in absurd never
put_back old new rest x y has was now value kept failed at = at

-- the innermost was taken away, what is around it stayed, and it or the like was put back
pub reopened : (old popped mid new : TreeBuilder) (rest : List Opened) (x y : Opened) → ((frame : Frame) → HasFrame frame x → HasFrame frame y) → old.opened.items ≡ rest ++ x ∷ [] → popped.opened.items ≡ rest → popped.value ≡ old.value → popped.levels ≡ old.levels → StaysThere popped mid
    → new.opened.items ≡ mid.opened.items ++ y ∷ [] → new.value ≡ mid.value → new.levels ≡ mid.levels → StaysThere old new
reopened old popped mid new rest x y has was now value kept stays again still same (reading room frames) at =
    inside frames (subst (λ os. HaveFrames frames os) (ap reverse was ∙ reverse_more rest x) at.0) at.1
  where
    inside : (frames : List Frame) → HaveFrames frames (x ∷ reverse rest) → length frames + room ≡ old.levels → FollowsStack (reading room frames) new
    inside [] have levels = absurd have
    inside (frame ∷ frames) have levels =
        let outside : HaveFrames frames (reverse popped.opened.items) = subst (λ os. HaveFrames frames os) (sym (ap reverse now)) have.2 in
        let stayed = stays (reading (suc room) frames) (outside, omega (arith, levels, kept), value ∙ at.2) in
        let all : HaveFrames (frame ∷ frames) (reverse new.opened.items) = subst (λ os. HaveFrames (frame ∷ frames) os) (sym (ap reverse again ∙ reverse_more mid.opened.items y)) (has frame have.0, have.1, stayed.0) in
        (all, omega (arith, stayed.1, same), still ∙ stayed.2)
reopened old popped mid new rest x y has was now value kept stays again still same (done j) at = let never : ⊥ = omega (arith, ap length (sym was ∙ at.3), length_more rest x) in absurd never
reopened old popped mid new rest x y has was now value kept stays again still same failed at = at

abbrev items_seen : Data → Items
items_seen null = no_items
items_seen (boolean b) = no_items
items_seen (number n) = no_items
items_seen (string s) = no_items
items_seen (array ds) = ds
items_seen (object ms) = no_items

abbrev members_seen : Data → Members
members_seen null = no_members
members_seen (boolean b) = no_members
members_seen (number n) = no_members
members_seen (string s) = no_members
members_seen (array ds) = no_members
members_seen (object ms) = ms

pub like_array : (v w : Vec Value Global) → Array w ≡ Array v → (frame : Frame) → HasFrame frame (Opened.Array v) → HasFrame frame (Opened.Array w)
like_array v w same (in_array js) has = has ∙ ap Some (sym (ap items_seen (sym (view-Array w) ∙ ap view same ∙ view-Array v)))
like_array v w same (in_object js) has = has
like_array v w same (in_member js k) has = has

pub like_object : (v w : BTreeMap (String Global) Value) → Object w ≡ Object v → (frame : Frame) → HasFrame frame (Opened.Object v) → HasFrame frame (Opened.Object w)
like_object v w same (in_array js) has = has
like_object v w same (in_object js) has = has ∙ ap Some (sym (ap members_seen (sym (view-Object w) ∙ ap view same ∙ view-Object v)))
like_object v w same (in_member js k) has = has

-- ---- over a token

pub over_frame : (t : Token) (frame : Frame) → ((room : ℕ) (frames : List Frame) → state_within room frames t ≡ opened_frame room frames frame) → (s : StackState) → next_state s t ≡ state_within_frame s frame
over_frame t frame step (reading room frames) = step room frames
over_frame t frame step (done j) = refl
over_frame t frame step failed = refl

pub over_value : (t : Token) (j : Json) → ((room : ℕ) (frames : List Frame) → state_within room frames t ≡ value_ended room frames j) → (s : StackState) → next_state s t ≡ state_behind s j
over_value t j step (reading room frames) = step room frames
over_value t j step (done i) = refl
over_value t j step failed = refl

failed_stays : (ts : List Token) → state_after failed ts ≡ failed
unfolding state_after
failed_stays [] = refl
failed_stays (t ∷ ts) = failed_stays ts

pub fails : (old : TreeBuilder) (t : Token) → ((s : StackState) → FollowsStack s old → next_state s t ≡ failed) → HasNoValueWith old t
fails old t failing s at more = ap (λ r. option_and_then of_json (result_of (state_after r more))) (failing s at) ∙ ap (λ r. option_and_then of_json (result_of r)) (failed_stays more)

pub over_begun : (t : Token) (frame : Frame) (o : Opened) (old new : TreeBuilder) → ((room : ℕ) (frames : List Frame) → state_within room frames t ≡ opened_frame room frames frame) → HasFrame frame o
    → ((s : StackState) (frame : Frame) → FollowsStack s old → HasFrame frame o → FollowsStack (state_within_frame s frame) new) → FollowsToken old t new
over_begun t frame o old new step has begun s at = subst (λ r. FollowsStack r new) (sym (over_frame t frame step s)) (begun s frame at has)

pub begun_refused : (t : Token) (frame : Frame) (old : TreeBuilder) → ((room : ℕ) (frames : List Frame) → state_within room frames t ≡ opened_frame room frames frame) → ((s : StackState) (frame : Frame) → FollowsStack s old → state_within_frame s frame ≡ failed) → HasNoValueWith old t
begun_refused t frame old step none = fails old t (λ s at. over_frame t frame step s ∙ none s frame at)

pub over_ended : (t : Token) (j : Json) (value : Value) (old new : TreeBuilder) → ((room : ℕ) (frames : List Frame) → state_within room frames t ≡ value_ended room frames j) → of_json j ≡ Some (view value)
    → ((s : StackState) (j : Json) → FollowsStack s old → of_json j ≡ Some (view value) → FollowsStack (state_behind s j) new) → FollowsToken old t new
over_ended t j value old new step read ended s at = subst (λ r. FollowsStack r new) (sym (over_value t j step s)) (ended s j at read)

pub ended_refused : (t : Token) (j : Json) (old : TreeBuilder) → ((room : ℕ) (frames : List Frame) → state_within room frames t ≡ value_ended room frames j) → ((s : StackState) (j : Json) → FollowsStack s old → state_behind s j ≡ failed) → HasNoValueWith old t
ended_refused t j old step none = fails old t (λ s at. over_value t j step s ∙ none s j at)

pub view-Null : view value.Null ≡ null
view-Null = search (rules, the_lemmas)

pub view-Bool : (b : Bool) → view (value.Bool b) ≡ boolean b
view-Bool b = search (rules, the_lemmas)

pub view-Number : (n : Number) → view (value.Number n) ≡ number (number_view n)
view-Number n = search (rules, the_lemmas)

pub view-String : (text : String Global) → view (value.String text) ≡ string (string_bytes text)
view-String text = search (rules, the_lemmas)

pub bad_refused : (old : TreeBuilder) → HasNoValueWith old Token.bad
bad_refused old = fails old Token.bad failing
  where
    failing : (s : StackState) → FollowsStack s old → next_state s Token.bad ≡ failed
    failing (reading room frames) at = refl
    failing (done j) at = refl
    failing failed at = refl

-- ---- what is innermost

some_open : (old : TreeBuilder) (rest : List Opened) (x : Opened) → old.opened.items ≡ rest ++ x ∷ [] → old.opened.items ≡ [] → ⊥
some_open old rest x was none = omega (arith, ap length (sym was ∙ none), length_more rest x)

abbrev items_in : List Opened → List Value
items_in [] = []
items_in (Opened.Array v ∷ os) = v.items
items_in (Opened.Object m ∷ os) = []
items_in (Opened.Member m k ∷ os) = []

abbrev entries_in : List Opened → List (String Global × Value)
entries_in [] = []
entries_in (Opened.Array v ∷ os) = []
entries_in (Opened.Object m ∷ os) = m.entries
entries_in (Opened.Member m k ∷ os) = []

abbrev others : List Opened → List Opened
others [] = []
others (o ∷ os) = os

-- an array closes
pub array_closed : (old popped new : TreeBuilder) (rest : List Opened) (items : Vec Value Global) → old.opened.items ≡ rest ++ Opened.Array items ∷ [] → popped.opened.items ≡ rest → popped.value ≡ old.value → popped.levels ≡ old.levels
    → ((s : StackState) (j : Json) → FollowsStack s popped → is_due_at s ≡ true → of_json j ≡ Some (view (Array items)) → FollowsStack (state_behind s j) new) → FollowsToken old Token.end_array new
array_closed old popped new rest items was now same kept ends (reading room frames) at =
    inside frames (Opened.Array items ∷ reverse rest) (subst (λ os. HaveFrames frames os) (ap reverse was ∙ reverse_more rest (Opened.Array items)) at.0) refl at.1
  where
    inside : ForFrames (λ frames os. os ≡ Opened.Array items ∷ reverse rest → length frames + room ≡ old.levels → FollowsStack (array_ended room frames) new)
    inside =
        by_kind (λ frames os. os ≡ Opened.Array items ∷ reverse rest → length frames + room ≡ old.levels → FollowsStack (array_ended room frames) new) (λ is levels. absurd cc)
        (λ js v has frames os here have is levels.
        let outside : HaveFrames frames (reverse popped.opened.items) = subst (λ os. HaveFrames frames os) (ap others is ∙ sym (ap reverse now)) have in
        let read = ap (option_map array) (has ∙ ap (λ vs. Some (items_view vs)) (ap items_in is)) ∙ ap Some (sym (view-Array items)) in
        ends (reading (suc room) frames) (json.array js) (outside, omega (arith, levels, kept), same ∙ at.2) here read)
        (λ js m has frames os here have is levels. absurd cc) (λ js k m key has frames os here have is levels. absurd cc)
array_closed old popped new rest items was now same kept ends (done j) at = absurd (some_open old rest (Opened.Array items) was at.3)
array_closed old popped new rest items was now same kept ends failed at = absurd at

-- an object closes
pub object_closed : (old popped new : TreeBuilder) (rest : List Opened) (members : BTreeMap (String Global) Value) → old.opened.items ≡ rest ++ Opened.Object members ∷ [] → popped.opened.items ≡ rest → popped.value ≡ old.value → popped.levels ≡ old.levels
    → ((s : StackState) (j : Json) → FollowsStack s popped → is_due_at s ≡ true → of_json j ≡ Some (view (Object members)) → FollowsStack (state_behind s j) new) → FollowsToken old Token.end_object new
object_closed old popped new rest members was now same kept ends (reading room frames) at =
    inside frames (Opened.Object members ∷ reverse rest) (subst (λ os. HaveFrames frames os) (ap reverse was ∙ reverse_more rest (Opened.Object members)) at.0) refl at.1
  where
    inside : ForFrames (λ frames os. os ≡ Opened.Object members ∷ reverse rest → length frames + room ≡ old.levels → FollowsStack (object_ended room frames) new)
    inside =
        by_kind (λ frames os. os ≡ Opened.Object members ∷ reverse rest → length frames + room ≡ old.levels → FollowsStack (object_ended room frames) new) (λ is levels. absurd cc)
        (λ js v has frames os here have is levels. absurd cc)
        (λ js m has frames os here have is levels.
        let outside : HaveFrames frames (reverse popped.opened.items) = subst (λ os. HaveFrames frames os) (ap others is ∙ sym (ap reverse now)) have in
        let read = ap (option_map object) (has ∙ ap (λ vs. Some (members_view vs)) (ap entries_in is)) ∙ ap Some (sym (view-Object members)) in
        ends (reading (suc room) frames) (json.object js) (outside, omega (arith, levels, kept), same ∙ at.2) here read)
        (λ js k m key has frames os here have is levels. absurd cc)
object_closed old popped new rest members was now same kept ends (done j) at = absurd (some_open old rest (Opened.Object members) was at.3)
object_closed old popped new rest members was now same kept ends failed at = absurd at

-- a key comes
pub key_taken : (name : List ℕ) (key : String Global) → string_bytes key ≡ name → (old new : TreeBuilder) (rest : List Opened) (members : BTreeMap (String Global) Value) → old.opened.items ≡ rest ++ Opened.Object members ∷ [] → new.opened.items ≡ rest ++ Opened.Member members key ∷ [] → new.value ≡ old.value
    → new.levels ≡ old.levels → FollowsToken old (Token.key name) new
key_taken name key named old new rest members was now same kept (reading room frames) at =
    inside frames (Opened.Object members ∷ reverse rest) (subst (λ os. HaveFrames frames os) (ap reverse was ∙ reverse_more rest (Opened.Object members)) at.0) refl at.1
  where
    inside : ForFrames (λ frames os. os ≡ Opened.Object members ∷ reverse rest → length frames + room ≡ old.levels → FollowsStack (key_read room frames name) new)
    inside =
        by_kind (λ frames os. os ≡ Opened.Object members ∷ reverse rest → length frames + room ≡ old.levels → FollowsStack (key_read room frames name) new) (λ is levels. absurd cc)
        (λ js v has frames os here have is levels. absurd cc)
        (λ js m has frames os here have is levels.
        let read = has ∙ ap (λ vs. Some (members_view vs)) (ap entries_in is) in
        let outside : HaveFrames frames (reverse rest) = subst (λ os. HaveFrames frames os) (ap others is) have in
        let all : HaveFrames (in_member js name ∷ frames) (reverse new.opened.items) =
        subst (λ os. HaveFrames (in_member js name ∷ frames) os) (sym (ap reverse now ∙ reverse_more rest (Opened.Member members key))) ((read, named), here, outside) in
        (all, omega (arith, levels, kept), same ∙ at.2))
        (λ js k m l has frames os here have is levels. absurd cc)
key_taken name key named old new rest members was now same kept (done j) at = absurd (some_open old rest (Opened.Object members) was at.3)
key_taken name key named old new rest members was now same kept failed at = absurd at

-- ---- what is innermost is something else

abbrev pub is_array : List Opened → Bool
is_array [] = false
is_array (Opened.Array v ∷ os) = true
is_array (Opened.Object m ∷ os) = false
is_array (Opened.Member m k ∷ os) = false

abbrev pub is_object : List Opened → Bool
is_object [] = false
is_object (Opened.Array v ∷ os) = false
is_object (Opened.Object m ∷ os) = true
is_object (Opened.Member m k ∷ os) = false

pub not_array : (x : Opened) (os : List Opened) → ((v : Vec Value Global) → x ≡ Opened.Array v → ⊥) → is_array (x ∷ os) ≡ false
not_array (Opened.Array v) os not = absurd (not v refl)
not_array (Opened.Object m) os not = refl
not_array (Opened.Member m k) os not = refl

pub not_object : (x : Opened) (os : List Opened) → ((m : BTreeMap (String Global) Value) → x ≡ Opened.Object m → ⊥) → is_object (x ∷ os) ≡ false
not_object (Opened.Array v) os not = refl
not_object (Opened.Object m) os not = absurd (not m refl)
not_object (Opened.Member m k) os not = refl

array_end_fails : (room : ℕ) → ForFrames (λ frames os. is_array os ≡ false → array_ended room frames ≡ failed)
array_end_fails room =
    by_kind (λ frames os. is_array os ≡ false → array_ended room frames ≡ failed) (λ is. refl) (λ js v has frames os here have is. absurd (true≢false is)) (λ js m has frames os here have is. refl)
    (λ js k m key has frames os here have is. refl)

object_end_fails : (room : ℕ) → ForFrames (λ frames os. is_object os ≡ false → object_ended room frames ≡ failed)
object_end_fails room =
    by_kind (λ frames os. is_object os ≡ false → object_ended room frames ≡ failed) (λ is. refl) (λ js v has frames os here have is. refl) (λ js m has frames os here have is. absurd (true≢false is))
    (λ js k m key has frames os here have is. refl)

key_fails : (k : List ℕ) (room : ℕ) → ForFrames (λ frames os. is_object os ≡ false → key_read room frames k ≡ failed)
key_fails k room =
    by_kind (λ frames os. is_object os ≡ false → key_read room frames k ≡ failed) (λ is. refl) (λ js v has frames os here have is. refl) (λ js m has frames os here have is. absurd (true≢false is))
    (λ js l m key has frames os here have is. refl)

pub array_end_refused : (old : TreeBuilder) → is_array (reverse old.opened.items) ≡ false → HasNoValueWith old Token.end_array
array_end_refused old is = fails old Token.end_array failing
  where
    failing : (s : StackState) → FollowsStack s old → next_state s Token.end_array ≡ failed
    failing (reading room frames) at = array_end_fails room frames (reverse old.opened.items) at.0 is
    failing (done j) at = refl
    failing failed at = refl

pub object_end_refused : (old : TreeBuilder) → is_object (reverse old.opened.items) ≡ false → HasNoValueWith old Token.end_object
object_end_refused old is = fails old Token.end_object failing
  where
    failing : (s : StackState) → FollowsStack s old → next_state s Token.end_object ≡ failed
    failing (reading room frames) at = object_end_fails room frames (reverse old.opened.items) at.0 is
    failing (done j) at = refl
    failing failed at = refl

pub key_refused : (k : List ℕ) (old : TreeBuilder) → is_object (reverse old.opened.items) ≡ false → HasNoValueWith old (Token.key k)
key_refused k old is = fails old (Token.key k) failing
  where
    failing : (s : StackState) → FollowsStack s old → next_state s (Token.key k) ≡ failed
    failing (reading room frames) at = key_fails k room frames (reverse old.opened.items) at.0 is
    failing (done j) at = refl
    failing failed at = refl

pub nothing_open : (os rest : List Opened) → os ≡ rest ++ [] → length os ≡ 0 → reverse os ≡ []
nothing_open [] rest is none = refl
nothing_open (o ∷ os) rest is none = let never : ⊥ = omega (arith, none) in absurd never

-- what was taken away is put back
pub stays_there : (old new : TreeBuilder) → new.opened.items ≡ old.opened.items → new.value ≡ old.value → new.levels ≡ old.levels → StaysThere old new
stays_there old new same value kept (reading room frames) at = (subst (λ os. HaveFrames frames (reverse os)) (sym same) at.0, at.1 ∙ sym kept, value ∙ at.2)
stays_there old new same value kept (done j) at = (at.0, value ∙ at.1, at.2, same ∙ at.3)
stays_there old new same value kept failed at = at
