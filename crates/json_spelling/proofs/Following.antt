-- A speller goes over tokens as the machine with a stack does.
use Rattle.std.proofs.Common.{◌≡◌, ℕ, zero, suc, ◌+◌, ◌<◌, ◌≤◌, max, List, [], ◌∷◌, ◌++◌, length, reverse, Bool, true, false, if◌then◌else◌, ◌&&◌, ◌||◌, Option, Some, None, option_map, option_and_then, is_some, string_bytes, String, Global, refl, sym, ap, ap₂, ◌∙◌, subst, arith, append_assoc}
use Rattle.std.specs.Option.{option_to_list}
use Rattle.std.specs.Str.{IsUtf8}
use Rattle.std.proofs.lemmas.Bool.{false≢true, true≢false, and_parts}
use Rattle.std.proofs.lemmas.List.{reverse-append, length-reverse}
use Rattle.std.proofs.lemmas.Str.{IsUtf8-append}
use Rattle.json.specs.Token.{Token}
use Rattle.json.specs.Json as json
use Rattle.json.specs.Json.{Json}
use Rattle.json.specs.Print.{quoted, token_text}
use Rattle.json_stack.specs.Machine.{Frame, in_array, in_object, in_member, StackState, reading, done, failed, awaits_value, value_ended, opened_frame, array_ended, object_ended, key_read, state_within, next_state, state_after, start_state, result_of}
use Rattle.json_stack.proofs.Reading.{machine_reads}
use Rattle.json_stack.proofs.Runs.{state_after-append, failed_stays}
use Rattle.json.proofs.Printed.Utf8.{are_ascii, IsUtf8-are_ascii}
use Rattle.serde_json.specs.Data.{Num, Data, null, boolean, number, string, array, object, Items, Members, no_members, put, depth}
use Rattle.serde_json.specs.Read.{number_of, of_json, of_items, of_members, max_depth}
use Rattle.serde_json.specs.Written.{has_float, comma_if, compact_text}
use Rattle.json_spelling.specs.Spelled.{IsExtent, rises, data_of}
use Rattle.json_spelling.specs.Speller.{DataFrame, data_array, data_object, data_member, IsFrameData, AreFrameData, items_with, has_members, items_written, members_written, frame_text, comma_awaited, frames_text, frame_depth, frame_float, frames_depth, frames_float, IsAboveMembers, IsOpenedAt, AreOpened, IsInside, FollowsMachine, awaits, with_value, IsBeforeValue, IsBehindValue, value_awaited, opened_after, is_array, is_object, IsPlainValue, GoesOver, RefusesToken, IsEnded, IsUnended, HasSpelled}
use Rattle.json_spelling.specs.declared.extent.Extent.{Extent}
use Rattle.json_spelling.specs.declared.spelling.Spelled.{Spelled}
use Rattle.json_spelling.specs.declared.speller.Opened.{Opened}
use Rattle.json_spelling.specs.declared.speller.Speller.{Speller}
use Rattle.json_spelling.proofs.DataFrames.{members_with, of_items-items_and, of_members-members_and, put_above, above_next, has_items-items_with, has_members-members_with, items_closed, members_closed, item_put, member_put}

-- ---- what is open, innermost first

pub reverse_more : {A : Type 0} (xs : List A) (x : A) → reverse (xs ++ x ∷ []) ≡ x ∷ reverse xs
reverse_more xs x = reverse-append xs (x ∷ [])

pub length_more : {A : Type 0} (xs : List A) (x : A) → length (xs ++ x ∷ []) ≡ suc (length xs)
length_more [] x = refl
length_more (y ∷ xs) x = ap suc (length_more xs x)

nothing_reversed : {A : Type 0} (xs : List A) → reverse xs ≡ [] → xs ≡ []
nothing_reversed [] is = refl
nothing_reversed (x ∷ xs) is = let never : ⊥ = omega (arith, length-reverse (x ∷ xs), ap length is) in absurd never

as_many : (fs : List DataFrame) (os : List Opened) → AreOpened fs os → length fs ≡ length os
as_many [] [] are = refl
as_many [] (o ∷ os) are = absurd are
as_many (f ∷ fs) [] are = absurd are
as_many (f ∷ fs) (o ∷ os) are = omega (arith, as_many fs os are.1)

pub as_many_data : (frames : List Frame) (fs : List DataFrame) → AreFrameData frames fs → length frames ≡ length fs
as_many_data [] [] are = refl
as_many_data [] (f ∷ fs) are = absurd are
as_many_data (frame ∷ frames) [] are = absurd are
as_many_data (frame ∷ frames) (f ∷ fs) are = omega (arith, as_many_data frames fs are.2)

-- ---- the kinds of frames that stand for one another

abbrev pub OfFrames : (List Frame → List DataFrame → List Opened → Type 0) → Type 0
OfFrames P = (frames : List Frame) (fs : List DataFrame) (os : List Opened) → AreFrameData frames fs → AreOpened fs os → P frames fs os

abbrev pub Around : (List Frame → List DataFrame → List Opened → Type 0) → Type 0
Around P = (frames : List Frame) (fs : List DataFrame) (os : List Opened) → awaits_value frames ≡ true → AreFrameData frames fs → AreOpened fs os → P frames fs os

abbrev pub ForArrays : (List Frame → List DataFrame → List Opened → Type 0) → Type 0
ForArrays P = (js : json.Items) (ds : Items) (later : Bool) → of_items js ≡ Some ds → IsOpenedAt (data_array ds) (Opened.Array later) → Around (λ frames fs os. P (in_array js ∷ frames) (data_array ds ∷ fs) (Opened.Array later ∷ os))

abbrev pub ForObjects : (List Frame → List DataFrame → List Opened → Type 0) → Type 0
ForObjects P = (js : json.Members) (ms : Members) (last : Option (String Global)) → of_members js no_members ≡ Some ms → IsOpenedAt (data_object ms) (Opened.Object last)
    → Around (λ frames fs os. P (in_object js ∷ frames) (data_object ms ∷ fs) (Opened.Object last ∷ os))

abbrev pub ForMembers : (List Frame → List DataFrame → List Opened → Type 0) → Type 0
ForMembers P = (js : json.Members) (k : List ℕ) (ms : Members) (l : List ℕ) (key : String Global) → (of_members js no_members ≡ Some ms) × (k ≡ l) → IsOpenedAt (data_member ms l) (Opened.Member key)
    → Around (λ frames fs os. P (in_member js k ∷ frames) (data_member ms l ∷ fs) (Opened.Member key ∷ os))

pub by_kind : (P : List Frame → List DataFrame → List Opened → Type 0) → P [] [] [] → ForArrays P → ForObjects P → ForMembers P → OfFrames P
by_kind P none a o m [] [] [] are opened = none
by_kind P none a o m [] [] (x ∷ os) are opened = absurd opened
by_kind P none a o m [] (f ∷ fs) os are opened = absurd are
by_kind P none a o m (frame ∷ frames) [] os are opened = absurd are
by_kind P none a o m (frame ∷ frames) (f ∷ fs) [] are opened = absurd opened
by_kind P none a o m (in_array js ∷ frames) (data_array ds ∷ fs) (Opened.Array b ∷ os) are opened = a js ds b are.0 opened.0 frames fs os are.1 are.2 opened.1
by_kind P none a o m (in_array js ∷ frames) (data_array ds ∷ fs) (Opened.Object x ∷ os) are opened = absurd opened.0
by_kind P none a o m (in_array js ∷ frames) (data_array ds ∷ fs) (Opened.Member x ∷ os) are opened = absurd opened.0
by_kind P none a o m (in_array js ∷ frames) (data_object ms ∷ fs) (x ∷ os) are opened = absurd are.0
by_kind P none a o m (in_array js ∷ frames) (data_member ms l ∷ fs) (x ∷ os) are opened = absurd are.0
by_kind P none a o m (in_object js ∷ frames) (data_array ds ∷ fs) (x ∷ os) are opened = absurd are.0
by_kind P none a o m (in_object js ∷ frames) (data_object ms ∷ fs) (Opened.Array x ∷ os) are opened = absurd opened.0
by_kind P none a o m (in_object js ∷ frames) (data_object ms ∷ fs) (Opened.Object x ∷ os) are opened = o js ms x are.0 opened.0 frames fs os are.1 are.2 opened.1
by_kind P none a o m (in_object js ∷ frames) (data_object ms ∷ fs) (Opened.Member x ∷ os) are opened = absurd opened.0
by_kind P none a o m (in_object js ∷ frames) (data_member ms l ∷ fs) (x ∷ os) are opened = absurd are.0
by_kind P none a o m (in_member js k ∷ frames) (data_array ds ∷ fs) (x ∷ os) are opened = absurd are.0
by_kind P none a o m (in_member js k ∷ frames) (data_object ms ∷ fs) (x ∷ os) are opened = absurd are.0
by_kind P none a o m (in_member js k ∷ frames) (data_member ms l ∷ fs) (Opened.Array x ∷ os) are opened = absurd opened.0
by_kind P none a o m (in_member js k ∷ frames) (data_member ms l ∷ fs) (Opened.Object x ∷ os) are opened = absurd opened.0
by_kind P none a o m (in_member js k ∷ frames) (data_member ms l ∷ fs) (Opened.Member x ∷ os) are opened = m js k ms l x are.0 opened.0 frames fs os are.1 are.2 opened.1

-- ---- the comma before a value

pub some_same : {A : Type 0} (x y : A) → Some x ≡ Some y → x ≡ y
some_same x y is = grind arith

abbrev Awaited : List Frame → List DataFrame → List Opened → Type 0
Awaited frames fs os = (later : Bool) → value_awaited os ≡ Some later → (awaits_value frames ≡ true) × (comma_awaited fs ≡ later)

awaited_inside : OfFrames Awaited
awaited_inside =
    by_kind Awaited (λ later is. (refl, some_same false later is)) (λ js ds b are opened frames fs os around data_are those later is. (refl, sym opened ∙ some_same b later is))
    (λ js ms last are opened frames fs os around data_are those later is. absurd cc) (λ js k ms l key are opened frames fs os around data_are those later is. (refl, some_same false later is))

abbrev Unawaited : List Frame → List DataFrame → List Opened → Type 0
Unawaited frames fs os = value_awaited os ≡ None → awaits_value frames ≡ false

unawaited_inside : OfFrames Unawaited
unawaited_inside =
    by_kind Unawaited (λ is. absurd cc) (λ js ds b are opened frames fs os around data_are those is. absurd cc)
    (λ js ms last are opened frames fs os around data_are those is. refl) (λ js k ms l key are opened frames fs os around data_are those is. absurd cc)

comma_utf8 : (later : Bool) → IsUtf8 (comma_if later)
comma_utf8 true = IsUtf8-are_ascii (44 ∷ []) refl
comma_utf8 false = IsUtf8-are_ascii [] refl

-- a value may begin there, and its comma is written
pub value_begun : (old new : Speller) (later : Bool) → old.ended ≡ false → value_awaited (reverse old.opened.items) ≡ Some later → new.out.items ≡ old.out.items ++ comma_if later → new.opened.items ≡ old.opened.items → new.ended ≡ old.ended
    → new.levels ≡ old.levels → IsExtent new.extent old.extent.levels old.extent.fractional → (s : StackState) → FollowsMachine s old → IsBeforeValue s new
value_begun old new later going some out opened ended same extent (reading room frames) at =
    let fs = at.0 in
    let inside = at.1 in
    let both = awaited_inside frames fs (reverse old.opened.items) inside.0 inside.1 later some in
    let those = subst (λ os. AreOpened fs (reverse os)) (sym opened) inside.1 in
    let utf8 = subst IsUtf8 (sym out) (IsUtf8-append old.out.items (comma_if later) inside.4 (comma_utf8 later)) in
    (fs, (inside.0, those, inside.2 ∙ sym same, ended ∙ inside.3, utf8), both.0, out ∙ ap₂ (λ s b. s ++ comma_if b) at.2 (sym both.1), (extent.0 ∙ at.3.0, extent.1 ∙ at.3.1))
value_begun old new later going some out opened ended same extent (done j) at = absurd (true≢false (sym at.3 ∙ going))
value_begun old new later going some out opened ended same extent failed at = absurd at

pub none_awaited : (old : Speller) → value_awaited (reverse old.opened.items) ≡ None → (s : StackState) → FollowsMachine s old → awaits s ≡ false
none_awaited old none (reading room frames) at = unawaited_inside frames at.0 (reverse old.opened.items) at.1.0 at.1.1 none
none_awaited old none (done j) at = refl
none_awaited old none failed at = refl

pub ended_awaits_none : (old : Speller) → old.ended ≡ true → (s : StackState) → FollowsMachine s old → awaits s ≡ false
ended_awaits_none old ended (reading room frames) at = absurd (true≢false (sym ended ∙ at.1.3))
ended_awaits_none old ended (done j) at = refl
ended_awaits_none old ended failed at = refl

-- ---- behind a value

pub ended_whole : (j : Json) (d : Data) → of_json j ≡ Some d → (old new : Speller) → old.opened.items ≡ [] → new.opened.items ≡ [] → new.ended ≡ true → new.out.items ≡ old.out.items → IsExtent new.extent old.extent.levels old.extent.fractional
    → (s : StackState) → IsBehindValue s d old → FollowsMachine (with_value s j) new
ended_whole j d is old new was now ended out extent (reading room []) at = whole at.0 at.1 at.3 at.4
  where
    whole : (fs : List DataFrame) → IsInside room [] fs old → old.out.items ≡ (frames_text fs ++ comma_if (comma_awaited fs)) ++ compact_text d → IsExtent old.extent (max (frames_depth fs) (length fs + depth d)) (frames_float fs || has_float d)
        → FollowsMachine (done j) new
    whole [] inside text so_far = (d, is, now, ended, out ∙ text, (omega (arith, extent.0, so_far.0), extent.1 ∙ so_far.1), subst IsUtf8 (sym out) inside.4)
    whole (f ∷ fs) inside text so_far = absurd inside.0
ended_whole j d is old new was now ended out extent (reading room (frame ∷ frames)) at = never at.0 at.1.0 (subst (λ os. AreOpened at.0 (reverse os)) was at.1.1)
  where
    never : (fs : List DataFrame) → AreFrameData (frame ∷ frames) fs → AreOpened fs [] → FollowsMachine (value_ended room (frame ∷ frames) j) new
    never [] are opened = absurd are
    never (f ∷ fs) are opened = absurd opened
ended_whole j d is old new was now ended out extent (done i) at = absurd at
ended_whole j d is old new was now ended out extent failed at = absurd at

abbrev after_first : List Opened → List Opened
after_first [] = []
after_first (o ∷ os) = opened_after o ∷ os

abbrev without_first : List Opened → List Opened
without_first [] = []
without_first (o ∷ os) = os

module _ (j : Json) (d : Data) (is : of_json j ≡ Some d) (new : Speller) (rest : List Opened) (x : Opened) (now : new.opened.items ≡ rest ++ opened_after x ∷ []) (room : ℕ) where
  abbrev AfterValue : List Frame → List DataFrame → List Opened → Type 0
  AfterValue frames fs os =
      os ≡ x ∷ reverse rest → awaits_value frames ≡ true → length frames + room ≡ new.levels → new.ended ≡ false → IsUtf8 new.out.items → new.out.items ≡ (frames_text fs ++ comma_if (comma_awaited fs)) ++ compact_text d
      → IsExtent new.extent (max (frames_depth fs) (length fs + depth d)) (frames_float fs || has_float d) → FollowsMachine (value_ended room frames j) new

  changed : (os : List Opened) → os ≡ x ∷ reverse rest → after_first os ≡ reverse new.opened.items
  changed os same = ap after_first same ∙ sym (ap reverse now ∙ reverse_more rest (opened_after x))

  after_item : ForArrays AfterValue
  after_item js ds b are opened frames fs os around data_are those same here room_is going utf8 text extent =
      let made = of_items-items_and js j ∙ ap₂ (λ o i. option_and_then (λ es. option_map (items_with es) i) o) are is in
      let kept = item_put ds d fs in
      let innermost : IsOpenedAt (data_array (items_with ds d)) (Opened.Array true) = sym (has_items-items_with ds d) in
      (data_array (items_with ds d) ∷ fs, ((made, around, data_are), subst (λ os. AreOpened (data_array (items_with ds d) ∷ fs) os) (changed _ same) (innermost, those), room_is, going, utf8), text ∙ sym kept.0, (extent.0 ∙ sym kept.1, extent.1 ∙ sym kept.2))

  after_member : ForMembers AfterValue
  after_member js k ms l key are opened frames fs os around data_are those same here room_is going utf8 text extent =
      let made =
      of_members-members_and js k j no_members ∙ ap₂ (λ o i. option_and_then (λ es. option_map (λ e. put k e es) i) o) are.0 is ∙ ap (λ n. Some (put n d ms)) are.1
      ∙ ap (λ es. Some es) (put_above l d ms opened.1) in
      let kept = member_put ms l d fs in
      let above = subst (λ n. (m : List ℕ) → rises (Some n) m ≡ true → IsAboveMembers m (members_with ms l d)) (sym opened.0) (above_next l d ms opened.1) in
      let innermost : IsOpenedAt (data_object (members_with ms l d)) (Opened.Object (Some key)) = (above, sym (has_members-members_with ms l d)) in
      (data_object (members_with ms l d) ∷ fs, ((made, around, data_are), subst (λ os. AreOpened (data_object (members_with ms l d) ∷ fs) os) (changed _ same) (innermost, those), room_is, going, utf8), text ∙ sym kept.0, (extent.0 ∙ sym kept.1, extent.1 ∙ sym kept.2))

  after_any : OfFrames AfterValue
  after_any =
      by_kind AfterValue (λ same here room_is going utf8 text extent. absurd cc) after_item
      (λ js ms last are opened frames fs os around data_are those same here room_is going utf8 text extent. absurd (false≢true here)) after_member

pub ended_within : (j : Json) (d : Data) → of_json j ≡ Some d → (old new : Speller) (rest : List Opened) (x : Opened) → old.opened.items ≡ rest ++ x ∷ [] → new.opened.items ≡ rest ++ opened_after x ∷ [] → new.ended ≡ old.ended → new.levels ≡ old.levels
    → new.out.items ≡ old.out.items → IsExtent new.extent old.extent.levels old.extent.fractional → (s : StackState) → IsBehindValue s d old → FollowsMachine (with_value s j) new
ended_within j d is old new rest x was now ended same out extent (reading room frames) at =
    after_any j d is new rest x now room frames at.0 (reverse old.opened.items) at.1.0 at.1.1 (ap reverse was ∙ reverse_more rest x) at.2 (at.1.2 ∙ sym same) (ended ∙ at.1.3) (subst IsUtf8 (sym out) at.1.4) (out ∙ at.3) (extent.0 ∙ at.4.0, extent.1 ∙ at.4.1)
ended_within j d is old new rest x was now ended same out extent (done i) at = absurd at
ended_within j d is old new rest x was now ended same out extent failed at = absurd at

-- ---- an array or object opens

pub opened_here : (room : ℕ) (frames : List Frame) (frame : Frame) → awaits_value frames ≡ true → opened_frame (suc room) frames frame ≡ reading room (frame ∷ frames)
opened_here room frames frame here = ap (λ b. if b then reading room (frame ∷ frames) else failed) here

pub frame_begun : (t : Token) (frame : Frame) (f : DataFrame) (o : Opened) (b : ℕ) → ((room : ℕ) (frames : List Frame) → state_within room frames t ≡ opened_frame room frames frame) → IsFrameData frame f → IsOpenedAt f o → frame_text f ≡ b ∷ []
    → frame_depth f ≡ 0 → frame_float f ≡ false → are_ascii (b ∷ []) ≡ true → (old new : Speller) (level : Extent) → length old.opened.items < old.levels → IsExtent level (length old.opened.items + 1) false
    → IsExtent new.extent (max old.extent.levels level.levels) (old.extent.fractional || level.fractional) → new.out.items ≡ old.out.items ++ b ∷ [] → new.opened.items ≡ old.opened.items ++ o ∷ [] → new.ended ≡ old.ended
    → new.levels ≡ old.levels → (s : StackState) → IsBeforeValue s old → FollowsMachine (next_state s t) new
frame_begun t frame f o b step is opened text flat whole ascii old new level less level_is extent out grown ended kept (reading zero frames) at =
    let never : ⊥ = omega (arith, as_many_data frames at.0 at.1.0, as_many at.0 (reverse old.opened.items) at.1.1, length-reverse old.opened.items, at.1.2, less) in absurd never
frame_begun t frame f o b step is opened text flat whole ascii old new level less level_is extent out grown ended kept (reading (suc room) frames) at =
    let fs = at.0 in
    let many = as_many fs (reverse old.opened.items) at.1.1 in
    let same = length-reverse old.opened.items in
    let those = subst (λ os. AreOpened (f ∷ fs) os) (sym (ap reverse grown ∙ reverse_more old.opened.items o)) (opened, at.1.1) in
    let utf8 = subst IsUtf8 (sym out) (IsUtf8-append old.out.items (b ∷ []) at.1.4 (IsUtf8-are_ascii (b ∷ []) ascii)) in
    let levels : new.extent.levels ≡ frames_depth (f ∷ fs) = omega (arith, extent.0, at.4.0, level_is.0, many, same, flat) in
    let fractional = extent.1 ∙ ap₂ (λ p q. p || q) at.4.1 (level_is.1 ∙ sym whole) in
    subst (λ s. FollowsMachine s new) (sym (step (suc room) frames ∙ opened_here room frames frame at.2))
    (f ∷ fs, ((is, at.2, at.1.0), those, omega (arith, at.1.2, kept), ended ∙ at.1.3, utf8), out ∙ ap₂ (λ p q. p ++ q) at.3 (sym text), (levels, fractional))
frame_begun t frame f o b step is opened text flat whole ascii old new level less level_is extent out grown ended kept (done j) at = absurd at
frame_begun t frame f o b step is opened text flat whole ascii old new level less level_is extent out grown ended kept failed at = absurd at

-- ---- and closes

abbrev Closed : Speller → StackState → Type 0
Closed new after = (s : StackState) × (j : Json) × (d : Data) × (after ≡ with_value s j) × (of_json j ≡ Some d) × IsBehindValue s d new

module _ (old new : Speller) (rest : List Opened) (x : Opened) (was : old.opened.items ≡ rest ++ x ∷ []) (now : new.opened.items ≡ rest) (ended : new.ended ≡ old.ended) (kept : new.levels ≡ old.levels) (extent : IsExtent new.extent old.extent.levels old.extent.fractional) (b : ℕ) (ascii : are_ascii (b ∷ []) ≡ true)
    (out : new.out.items ≡ old.out.items ++ b ∷ []) where
  abbrev IsClosed : (ℕ → List Frame → StackState) → ℕ → List Frame → List DataFrame → List Opened → Type 0
  IsClosed close room frames fs os =
      os ≡ x ∷ reverse rest → length frames + room ≡ old.levels → old.ended ≡ false → IsUtf8 old.out.items → old.out.items ≡ frames_text fs → IsExtent old.extent (frames_depth fs) (frames_float fs) → Closed new (close room frames)

  around_now : (os : List Opened) → os ≡ reverse rest → os ≡ reverse new.opened.items
  around_now os same = same ∙ ap reverse (sym now)

  all_utf8 : IsUtf8 old.out.items → IsUtf8 new.out.items
  all_utf8 utf8 = subst IsUtf8 (sym out) (IsUtf8-append old.out.items (b ∷ []) utf8 (IsUtf8-are_ascii (b ∷ []) ascii))

  array_closed_kind : b ≡ 93 → (later : Bool) → x ≡ Opened.Array later → (room : ℕ) → OfFrames (IsClosed array_ended room)
  array_closed_kind bracket later is room =
      by_kind (IsClosed array_ended room) (λ same room_is going utf8 text so_far. absurd cc) this_array
      (λ js ms last are opened frames fs os around data_are those same room_is going utf8 text so_far. absurd cc) (λ js k ms l key are opened frames fs os around data_are those same room_is going utf8 text so_far. absurd cc)
    where
      this_array : ForArrays (IsClosed array_ended room)
      this_array js ds c are opened frames fs os around data_are those same room_is going utf8 text so_far =
          let tail = around_now os (ap without_first same) in
          let outside = frames_text fs ++ comma_if (comma_awaited fs) in
          let whole = out ∙ ap₂ (λ p q. p ++ q ∷ []) text bracket ∙ append_assoc outside (91 ∷ items_written false ds) (93 ∷ []) ∙ ap (λ p. outside ++ 91 ∷ p) (sym (items_closed false ds)) in
          let inside : IsInside (suc room) frames fs new = (data_are, subst (λ ps. AreOpened fs ps) tail those, omega (arith, room_is, kept), ended ∙ going, all_utf8 utf8) in
          (reading (suc room) frames, json.array js, array ds, refl, ap (option_map array) are, (fs, inside, around, whole, (omega (arith, extent.0, so_far.0), extent.1 ∙ so_far.1)))

  object_closed_kind : b ≡ 125 → (last : Option (String Global)) → x ≡ Opened.Object last → (room : ℕ) → OfFrames (IsClosed object_ended room)
  object_closed_kind bracket last is room =
      by_kind (IsClosed object_ended room) (λ same room_is going utf8 text so_far. absurd cc) (λ js ds c are opened frames fs os around data_are those same room_is going utf8 text so_far. absurd cc) this_object
      (λ js k ms l key are opened frames fs os around data_are those same room_is going utf8 text so_far. absurd cc)
    where
      this_object : ForObjects (IsClosed object_ended room)
      this_object js ms c are opened frames fs os around data_are those same room_is going utf8 text so_far =
          let tail = around_now os (ap without_first same) in
          let outside = frames_text fs ++ comma_if (comma_awaited fs) in
          let whole = out ∙ ap₂ (λ p q. p ++ q ∷ []) text bracket ∙ append_assoc outside (123 ∷ members_written false ms) (125 ∷ []) ∙ ap (λ p. outside ++ 123 ∷ p) (sym (members_closed false ms)) in
          let inside : IsInside (suc room) frames fs new = (data_are, subst (λ ps. AreOpened fs ps) tail those, omega (arith, room_is, kept), ended ∙ going, all_utf8 utf8) in
          (reading (suc room) frames, json.object js, object ms, refl, ap (option_map object) are, (fs, inside, around, whole, (omega (arith, extent.0, so_far.0), extent.1 ∙ so_far.1)))

pub array_closed : (old new : Speller) (rest : List Opened) (later : Bool) → old.opened.items ≡ rest ++ Opened.Array later ∷ [] → new.opened.items ≡ rest → new.ended ≡ old.ended → new.levels ≡ old.levels → IsExtent new.extent old.extent.levels old.extent.fractional
    → new.out.items ≡ old.out.items ++ 93 ∷ [] → (s : StackState) → FollowsMachine s old → Closed new (next_state s Token.end_array)
array_closed old new rest later was now ended kept extent out (reading room frames) at =
    array_closed_kind old new rest (Opened.Array later) was now ended kept extent 93 refl out refl later refl room frames at.0 (reverse old.opened.items) at.1.0 at.1.1 (ap reverse was ∙ reverse_more rest (Opened.Array later)) at.1.2 at.1.3 at.1.4 at.2 at.3
array_closed old new rest later was now ended kept extent out (done j) at = let never : ⊥ = omega (arith, ap length (sym was ∙ at.2), length_more rest (Opened.Array later)) in absurd never
array_closed old new rest later was now ended kept extent out failed at = absurd at

pub object_closed : (old new : Speller) (rest : List Opened) (last : Option (String Global)) → old.opened.items ≡ rest ++ Opened.Object last ∷ [] → new.opened.items ≡ rest → new.ended ≡ old.ended → new.levels ≡ old.levels → IsExtent new.extent old.extent.levels old.extent.fractional
    → new.out.items ≡ old.out.items ++ 125 ∷ [] → (s : StackState) → FollowsMachine s old → Closed new (next_state s Token.end_object)
object_closed old new rest last was now ended kept extent out (reading room frames) at =
    object_closed_kind old new rest (Opened.Object last) was now ended kept extent 125 refl out refl last refl room frames at.0 (reverse old.opened.items) at.1.0 at.1.1 (ap reverse was ∙ reverse_more rest (Opened.Object last)) at.1.2 at.1.3 at.1.4 at.2 at.3
object_closed old new rest last was now ended kept extent out (done j) at = let never : ⊥ = omega (arith, ap length (sym was ∙ at.2), length_more rest (Opened.Object last)) in absurd never
object_closed old new rest last was now ended kept extent out failed at = absurd at

pub after_closed : (written new : Speller) (after : StackState) → Closed written after → ((s : StackState) (j : Json) (d : Data) → of_json j ≡ Some d → IsBehindValue s d written → FollowsMachine (with_value s j) new) → FollowsMachine after new
after_closed written new after closed ends = subst (λ r. FollowsMachine r new) (sym closed.3) (ends closed.0 closed.1 closed.2 closed.4 closed.5)

-- ---- a key

module _ (k : List ℕ) (key : String Global) (named : string_bytes key ≡ k) (last : Option (String Global)) (rising : rises (option_map string_bytes last) k ≡ true) (new : Speller) (rest : List Opened) (now : new.opened.items ≡ rest ++ Opened.Member key ∷ []) (room : ℕ) (out : List ℕ)
    (written : new.out.items ≡ (out ++ comma_if (is_some last)) ++ (quoted k ++ 58 ∷ [])) where
  abbrev IsNamed : List Frame → List DataFrame → List Opened → Type 0
  IsNamed frames fs os =
      os ≡ Opened.Object last ∷ reverse rest → length frames + room ≡ new.levels → new.ended ≡ false → IsUtf8 new.out.items → out ≡ frames_text fs → IsExtent new.extent (frames_depth fs) (frames_float fs) → FollowsMachine (key_read room frames k) new

  key_text : (x w c q : List ℕ) → ((x ++ 123 ∷ w) ++ c) ++ (q ++ 58 ∷ []) ≡ x ++ 123 ∷ (w ++ (c ++ (q ++ 58 ∷ [])))
  key_text x w c q = simp append_assoc

  abbrev last_of : Opened → Option (String Global)
  last_of (Opened.Array later) = None
  last_of (Opened.Object name) = name
  last_of (Opened.Member name) = None

  abbrev last_in : List Opened → Option (String Global)
  last_in [] = None
  last_in (o ∷ os) = last_of o

  this_named : ForObjects IsNamed
  this_named js ms name are opened frames fs os around data_are those same room_is going utf8 text so_far =
      let same_last : name ≡ last = ap last_in same in
      let tail : os ≡ reverse rest = ap without_first same in
      let after : Opened.Member key ∷ os ≡ reverse new.opened.items = ap (λ ps. Opened.Member key ∷ ps) tail ∙ sym (ap reverse now ∙ reverse_more rest (Opened.Member key)) in
      let above : IsAboveMembers k ms = opened.0 k (ap (λ n. rises (option_map string_bytes n) k) same_last ∙ rising) in
      let some : is_some last ≡ has_members ms = ap is_some (sym same_last) ∙ opened.1 in
      let outside = frames_text fs ++ comma_if (comma_awaited fs) in
      let whole = written ∙ ap₂ (λ p q. (p ++ comma_if q) ++ (quoted k ++ 58 ∷ [])) text some ∙ key_text outside (members_written false ms) (comma_if (has_members ms)) (quoted k) in
      (data_member ms k ∷ fs, (((are, refl), around, data_are), subst (λ ps. AreOpened (data_member ms k ∷ fs) ps) after ((named, above), those), room_is, going, utf8), whole, so_far)

  any_named : OfFrames IsNamed
  any_named =
      by_kind IsNamed (λ same room_is going utf8 text so_far. absurd cc) (λ js ds c are opened frames fs os around data_are those same room_is going utf8 text so_far. absurd cc) this_named
      (λ js l ms m name are opened frames fs os around data_are those same room_is going utf8 text so_far. absurd cc)

pub key_put : (k : List ℕ) (key : String Global) → string_bytes key ≡ k → (last : Option (String Global)) → rises (option_map string_bytes last) k ≡ true → (old new : Speller) (rest : List Opened) → old.opened.items ≡ rest ++ Opened.Object last ∷ []
    → new.opened.items ≡ rest ++ Opened.Member key ∷ [] → new.out.items ≡ (old.out.items ++ comma_if (is_some last)) ++ (quoted k ++ 58 ∷ []) → IsUtf8 (quoted k ++ 58 ∷ []) → new.ended ≡ old.ended → new.levels ≡ old.levels → IsExtent new.extent old.extent.levels old.extent.fractional
    → GoesOver old (Token.key k) new
key_put k key named last rising old new rest was now written utf8 ended kept extent (reading room frames) at =
    let all = subst IsUtf8 (sym written) (IsUtf8-append (old.out.items ++ comma_if (is_some last)) _ (IsUtf8-append old.out.items (comma_if (is_some last)) at.1.4 (comma_utf8 (is_some last))) utf8) in
    any_named k key named last rising new rest now room old.out.items written frames at.0 (reverse old.opened.items) at.1.0 at.1.1 (ap reverse was ∙ reverse_more rest (Opened.Object last)) (at.1.2 ∙ sym kept) (ended ∙ at.1.3) all at.2 (extent.0 ∙ at.3.0, extent.1 ∙ at.3.1)
key_put k key named last rising old new rest was now written utf8 ended kept extent (done j) at = let never : ⊥ = omega (arith, ap length (sym was ∙ at.2), length_more rest (Opened.Object last)) in absurd never
key_put k key named last rising old new rest was now written utf8 ended kept extent failed at = absurd at

-- ---- a value of one token

pub next_as_value : (t : Token) (j : Json) → ((room : ℕ) (frames : List Frame) → state_within room frames t ≡ value_ended room frames j) → (s : StackState) → next_state s t ≡ with_value s j
next_as_value t j step (reading room frames) = step room frames
next_as_value t j step (done i) = refl
next_as_value t j step failed = refl

open_levels : (fs : List DataFrame) → length fs ≤ frames_depth fs
open_levels [] = omega arith
open_levels (f ∷ fs) = omega arith

value_written : (d : Data) (old new : Speller) → new.out.items ≡ old.out.items ++ compact_text d → IsUtf8 (compact_text d) → new.opened.items ≡ old.opened.items → new.ended ≡ old.ended → new.levels ≡ old.levels → depth d ≡ 0 → IsExtent new.extent old.extent.levels (old.extent.fractional || has_float d)
    → (s : StackState) → IsBeforeValue s old → IsBehindValue s d new
value_written d old new out utf8 opened ended kept flat extent (reading room frames) at =
    let fs = at.0 in
    let all = subst IsUtf8 (sym out) (IsUtf8-append old.out.items (compact_text d) at.1.4 utf8) in
    let those = subst (λ os. AreOpened fs (reverse os)) (sym opened) at.1.1 in
    (fs, (at.1.0, those, at.1.2 ∙ sym kept, ended ∙ at.1.3, all), at.2, out ∙ ap (λ p. p ++ compact_text d) at.3, (omega (arith, open_levels fs, extent.0, at.4.0, flat), extent.1 ∙ ap (λ p. p || has_float d) at.4.1))
value_written d old new out utf8 opened ended kept flat extent (done j) at = absurd at
value_written d old new out utf8 opened ended kept flat extent failed at = absurd at

-- begun, written and ended
pub value_gone_over : (t : Token) (j : Json) (d : Data) → ((room : ℕ) (frames : List Frame) → state_within room frames t ≡ value_ended room frames j) → of_json j ≡ Some d → depth d ≡ 0 → (old begun written new : Speller) → ((s : StackState) → FollowsMachine s old → IsBeforeValue s begun)
    → written.out.items ≡ begun.out.items ++ compact_text d → IsUtf8 (compact_text d) → written.opened.items ≡ begun.opened.items → written.ended ≡ begun.ended → written.levels ≡ begun.levels → IsExtent written.extent begun.extent.levels (begun.extent.fractional || has_float d)
    → ((s : StackState) (i : Json) (e : Data) → of_json i ≡ Some e → IsBehindValue s e written → FollowsMachine (with_value s i) new) → GoesOver old t new
value_gone_over t j d step is flat old begun written new before out utf8 opened ended kept extent after s at =
    subst (λ r. FollowsMachine r new) (sym (next_as_value t j step s)) (after s j d is (value_written d begun written out utf8 opened ended kept flat extent s (before s at)))

abbrev Plain : Token → Type 0
Plain t = (j : Json) × (d : Data) × ((room : ℕ) (frames : List Frame) → state_within room frames t ≡ value_ended room frames j) × (of_json j ≡ Some d) × (depth d ≡ 0) × (token_text t ≡ compact_text d) × (has_float d ≡ false)

pub plain_value : (t : Token) → IsPlainValue t → Plain t
plain_value Token.null is = (json.null, null, λ room frames. refl, refl, refl, refl, refl)
plain_value (Token.boolean b) is = (json.boolean b, boolean b, λ room frames. refl, refl, refl, refl, refl)
plain_value (Token.string s) is = (json.string s, string s, λ room frames. refl, refl, refl, refl, refl)
plain_value Token.begin_object is = absurd is
plain_value Token.end_object is = absurd is
plain_value Token.begin_array is = absurd is
plain_value Token.end_array is = absurd is
plain_value (Token.key s) is = absurd is
plain_value (Token.number s) is = absurd is
plain_value Token.bad is = absurd is

or_false : (a : Bool) → a ≡ (a || false)
or_false true = refl
or_false false = refl

pub plain_extent : (extent : Extent) (d : Data) → has_float d ≡ false → IsExtent extent extent.levels (extent.fractional || has_float d)
plain_extent extent d whole = (refl, or_false extent.fractional ∙ sym (ap (λ b. extent.fractional || b) whole))

pub number_read : (s : List ℕ) (n : Num) → number_of s ≡ Some n → of_json (json.number s) ≡ Some (number n)
number_read s n is = ap (option_map number) is

-- ---- no value goes on so

pub none_after : (s : StackState) → s ≡ failed → (more : List Token) → option_and_then of_json (result_of (state_after s more)) ≡ None
none_after s is more = ap (λ r. option_and_then of_json (result_of (state_after r more))) is ∙ ap (λ r. option_and_then of_json (result_of r)) (failed_stays more)

pub fails : (old : Speller) (t : Token) → ((s : StackState) → FollowsMachine s old → next_state s t ≡ failed) → RefusesToken old t
fails old t failing s at more = none_after (next_state s t) (failing s at) more

no_value : (s : StackState) (j : Json) → awaits s ≡ false → with_value s j ≡ failed
no_value (reading room []) j none = absurd (true≢false none)
no_value (reading room (in_array js ∷ frames)) j none = absurd (true≢false none)
no_value (reading room (in_object ms ∷ frames)) j none = refl
no_value (reading room (in_member ms k ∷ frames)) j none = absurd (true≢false none)
no_value (done i) j none = refl
no_value failed j none = refl

pub value_refused : (t : Token) (j : Json) → ((room : ℕ) (frames : List Frame) → state_within room frames t ≡ value_ended room frames j) → (old : Speller) → ((s : StackState) → FollowsMachine s old → awaits s ≡ false) → RefusesToken old t
value_refused t j step old none = fails old t (λ s at. next_as_value t j step s ∙ no_value s j (none s at))

pub no_frame : (room : ℕ) (frames : List Frame) (frame : Frame) → awaits_value frames ≡ false → opened_frame room frames frame ≡ failed
no_frame zero frames frame none = refl
no_frame (suc room) frames frame none = ap (λ b. if b then reading room (frame ∷ frames) else failed) none

pub frame_refused : (t : Token) (frame : Frame) → ((room : ℕ) (frames : List Frame) → state_within room frames t ≡ opened_frame room frames frame) → (old : Speller) → ((s : StackState) → FollowsMachine s old → awaits s ≡ false) → RefusesToken old t
frame_refused t frame step old none = fails old t failing
  where
    failing : (s : StackState) → FollowsMachine s old → next_state s t ≡ failed
    failing (reading room frames) at = step room frames ∙ no_frame room frames frame (none (reading room frames) at)
    failing (done j) at = refl
    failing failed at = refl

pub too_deep : (t : Token) (frame : Frame) → ((room : ℕ) (frames : List Frame) → state_within room frames t ≡ opened_frame room frames frame) → (old begun : Speller) → ((s : StackState) → FollowsMachine s old → IsBeforeValue s begun) → begun.levels ≤ length begun.opened.items → RefusesToken old t
too_deep t frame step old begun before deep = fails old t (λ s at. failing s (before s at))
  where
    failing : (s : StackState) → IsBeforeValue s begun → next_state s t ≡ failed
    failing (reading zero frames) at = step zero frames
    failing (reading (suc room) frames) at =
        let never : ⊥ = omega (arith, as_many_data frames at.0 at.1.0, as_many at.0 (reverse begun.opened.items) at.1.1, length-reverse begun.opened.items, at.1.2, deep) in absurd never
    failing (done j) at = absurd at
    failing failed at = absurd at

-- what is innermost

abbrev first_of : List Opened → Option Opened
first_of [] = None
first_of (o ∷ os) = Some o

innermost_first : (os rest : List Opened) (o : Option Opened) → os ≡ rest ++ option_to_list o → (o ≡ None → length os ≡ 0) → first_of (reverse os) ≡ o
innermost_first os rest (Some x) is none = ap first_of (ap reverse is ∙ reverse_more rest x)
innermost_first [] rest None is none = refl
innermost_first (x ∷ os) rest None is none = let never : ⊥ = omega (arith, none refl) in absurd never

array_end_fails : (room : ℕ) → OfFrames (λ frames fs os. is_array (first_of os) ≡ false → array_ended room frames ≡ failed)
array_end_fails room =
    by_kind (λ frames fs os. is_array (first_of os) ≡ false → array_ended room frames ≡ failed) (λ is. refl) (λ js ds c are opened frames fs os around data_are those is. absurd (true≢false is))
    (λ js ms last are opened frames fs os around data_are those is. refl) (λ js k ms l key are opened frames fs os around data_are those is. refl)

object_end_fails : (room : ℕ) → OfFrames (λ frames fs os. is_object (first_of os) ≡ false → object_ended room frames ≡ failed)
object_end_fails room =
    by_kind (λ frames fs os. is_object (first_of os) ≡ false → object_ended room frames ≡ failed) (λ is. refl) (λ js ds c are opened frames fs os around data_are those is. refl)
    (λ js ms last are opened frames fs os around data_are those is. absurd (true≢false is)) (λ js k ms l key are opened frames fs os around data_are those is. refl)

key_fails : (k : List ℕ) (room : ℕ) → OfFrames (λ frames fs os. is_object (first_of os) ≡ false → key_read room frames k ≡ failed)
key_fails k room =
    by_kind (λ frames fs os. is_object (first_of os) ≡ false → key_read room frames k ≡ failed) (λ is. refl) (λ js ds c are opened frames fs os around data_are those is. refl)
    (λ js ms last are opened frames fs os around data_are those is. absurd (true≢false is)) (λ js l ms m key are opened frames fs os around data_are those is. refl)

module _ (old : Speller) (rest : List Opened) (o : Option Opened) (was : old.opened.items ≡ rest ++ option_to_list o) (none : o ≡ None → length old.opened.items ≡ 0) where
  found : (kind : Option Opened → Bool) → kind o ≡ false → kind (first_of (reverse old.opened.items)) ≡ false
  found kind is = ap kind (innermost_first old.opened.items rest o was none) ∙ is

  pub array_end_refused : is_array o ≡ false → RefusesToken old Token.end_array
  array_end_refused is = fails old Token.end_array failing
    where
      failing : (s : StackState) → FollowsMachine s old → next_state s Token.end_array ≡ failed
      failing (reading room frames) at = array_end_fails room frames at.0 (reverse old.opened.items) at.1.0 at.1.1 (found is_array is)
      failing (done j) at = refl
      failing failed at = refl

  pub object_end_refused : is_object o ≡ false → RefusesToken old Token.end_object
  object_end_refused is = fails old Token.end_object failing
    where
      failing : (s : StackState) → FollowsMachine s old → next_state s Token.end_object ≡ failed
      failing (reading room frames) at = object_end_fails room frames at.0 (reverse old.opened.items) at.1.0 at.1.1 (found is_object is)
      failing (done j) at = refl
      failing failed at = refl

  pub key_refused : (k : List ℕ) → is_object o ≡ false → RefusesToken old (Token.key k)
  key_refused k is = fails old (Token.key k) failing
    where
      failing : (s : StackState) → FollowsMachine s old → next_state s (Token.key k) ≡ failed
      failing (reading room frames) at = key_fails k room frames at.0 (reverse old.opened.items) at.1.0 at.1.1 (found is_object is)
      failing (done j) at = refl
      failing failed at = refl

pub bad_refused : (old : Speller) → RefusesToken old Token.bad
bad_refused old = fails old Token.bad failing
  where
    failing : (s : StackState) → FollowsMachine s old → next_state s Token.bad ≡ failed
    failing (reading room frames) at = refl
    failing (done j) at = refl
    failing failed at = refl

-- ---- a value that has not ended, or has

pub unended : (speller : Speller) → speller.ended ≡ false → (s : StackState) → FollowsMachine s speller → IsUnended s speller speller
unended speller going (reading room frames) at = (room, frames, refl, refl)
unended speller going (done j) at = absurd (true≢false (sym at.3 ∙ going))
unended speller going failed at = absurd at

pub object_has_ended : (speller : Speller) (spelled : Spelled) → speller.ended ≡ true → spelled.text.items ≡ speller.out.items → spelled.extent ≡ speller.extent → (s : StackState) → FollowsMachine s speller → IsEnded s spelled
object_has_ended speller spelled ended text extent (reading room frames) at = absurd (true≢false (sym ended ∙ at.1.3))
object_has_ended speller spelled ended text extent (done j) at =
    (j, at.0, refl, at.1, (text ∙ at.4, subst (λ e. IsExtent e (depth at.0) (has_float at.0)) (sym extent) at.5, subst IsUtf8 (sym text) at.6))
object_has_ended speller spelled ended text extent failed at = absurd at

-- the data that the tokens are
pub data_read : (ts : List Token) (s : StackState) → state_after (start_state max_depth) ts ≡ s → data_of ts ≡ option_and_then of_json (result_of s)
data_read ts s is = ap (option_and_then of_json) (machine_reads max_depth ts) ∙ ap (λ r. option_and_then of_json (result_of r)) is

-- all tokens so far
pub tokens_spelled : (t : Token) (old new : Speller) → GoesOver old t new → (ts : List Token) → HasSpelled ts old → HasSpelled (ts ++ t ∷ []) new
unfolding state_after
tokens_spelled t old new goes ts at = subst (λ s. FollowsMachine s new) (sym (state_after-append (start_state max_depth) ts (t ∷ []))) (goes (state_after (start_state max_depth) ts) at)

pub tokens_refused : (t : Token) (old : Speller) → RefusesToken old t → (ts more : List Token) → HasSpelled ts old → data_of (ts ++ t ∷ more) ≡ None
unfolding state_after
tokens_refused t old refuses ts more at =
    ap (option_and_then of_json) (machine_reads max_depth (ts ++ t ∷ more)) ∙ ap (λ s. option_and_then of_json (result_of s)) (state_after-append (start_state max_depth) ts (t ∷ more)) ∙ refuses (state_after (start_state max_depth) ts) at more

-- before the first token
pub none_yet : (speller : Speller) → speller.out.items ≡ [] → speller.opened.items ≡ [] → speller.ended ≡ false → IsExtent speller.extent 0 false → FollowsMachine (start_state speller.levels) speller
none_yet speller out opened going extent =
    let those : AreOpened [] (reverse speller.opened.items) = subst (λ os. AreOpened [] (reverse os)) (sym opened) tt in
    ([], (tt, those, omega arith, going, subst IsUtf8 (sym out) (IsUtf8-are_ascii [] refl)), out, extent)

-- ---- a number that is none

abbrev pub has_data : Frame → Bool
has_data (in_array js) = is_some (of_items js)
has_data (in_object js) = is_some (of_members js no_members)
has_data (in_member js k) = is_some (of_members js no_members)

abbrev pub all_data : List Frame → Bool
all_data [] = true
all_data (frame ∷ frames) = has_data frame && all_data frames

abbrev pub state_data : StackState → Bool
state_data (reading room frames) = all_data frames
state_data (done j) = is_some (of_json j)
state_data failed = false

both_some : {A : Type 0} (f : A → Data → A) (a : Option A) (o : Option Data) → is_some (option_and_then (λ x. option_map (f x) o) a) ≡ true → (is_some a ≡ true) × (is_some o ≡ true)
both_some f None o is = absurd (false≢true is)
both_some f (Some x) None is = absurd (false≢true is)
both_some f (Some x) (Some d) is = (refl, refl)

mapped_some : {A : Type 0} (f : A → Data) (a : Option A) → is_some (option_map f a) ≡ true → is_some a ≡ true
mapped_some f None is = absurd (false≢true is)
mapped_some f (Some x) is = refl

both_true : (a b : Bool) → a ≡ true → b ≡ true → (a && b) ≡ true
both_true a b is also = ap₂ (λ p q. p && q) is also

pub value_has : (room : ℕ) (frames : List Frame) (j : Json) → state_data (value_ended room frames j) ≡ true → (all_data frames ≡ true) × (is_some (of_json j) ≡ true)
value_has room [] j is = (refl, is)
value_has room (in_array js ∷ frames) j is =
    let parts = and_parts _ _ is in
    let some = both_some items_with (of_items js) (of_json j) (sym (ap is_some (of_items-items_and js j)) ∙ parts.0) in
    (both_true _ _ some.0 parts.1, some.1)
value_has room (in_object js ∷ frames) j is = absurd (false≢true is)
value_has room (in_member js k ∷ frames) j is =
    let parts = and_parts _ _ is in
    let some = both_some (λ ms d. put k d ms) (of_members js no_members) (of_json j) (sym (ap is_some (of_members-members_and js k j no_members)) ∙ parts.0) in
    (both_true _ _ some.0 parts.1, some.1)

if_has : (b : Bool) (room : ℕ) (frame : Frame) (frames : List Frame) → state_data (if b then reading room (frame ∷ frames) else failed) ≡ true → all_data frames ≡ true
if_has true room frame frames is = (and_parts _ _ is).1
if_has false room frame frames is = absurd (false≢true is)

opened_has : (room : ℕ) (frames : List Frame) (frame : Frame) → state_data (opened_frame room frames frame) ≡ true → all_data frames ≡ true
opened_has zero frames frame is = absurd (false≢true is)
opened_has (suc room) frames frame is = if_has (awaits_value frames) room frame frames is

array_has : (room : ℕ) (frames : List Frame) → state_data (array_ended room frames) ≡ true → all_data frames ≡ true
array_has room [] is = absurd (false≢true is)
array_has room (in_array js ∷ frames) is =
    let both = value_has (suc room) frames (json.array js) is in
    both_true _ _ (mapped_some array (of_items js) both.1) both.0
array_has room (in_object js ∷ frames) is = absurd (false≢true is)
array_has room (in_member js k ∷ frames) is = absurd (false≢true is)

object_has : (room : ℕ) (frames : List Frame) → state_data (object_ended room frames) ≡ true → all_data frames ≡ true
object_has room [] is = absurd (false≢true is)
object_has room (in_array js ∷ frames) is = absurd (false≢true is)
object_has room (in_object js ∷ frames) is =
    let both = value_has (suc room) frames (json.object js) is in
    both_true _ _ (mapped_some object (of_members js no_members) both.1) both.0
object_has room (in_member js k ∷ frames) is = absurd (false≢true is)

key_has : (room : ℕ) (frames : List Frame) (k : List ℕ) → state_data (key_read room frames k) ≡ true → all_data frames ≡ true
key_has room [] k is = absurd (false≢true is)
key_has room (in_array js ∷ frames) k is = absurd (false≢true is)
key_has room (in_object js ∷ frames) k is = is
key_has room (in_member js l ∷ frames) k is = absurd (false≢true is)

within_has : (room : ℕ) (frames : List Frame) (t : Token) → state_data (state_within room frames t) ≡ true → all_data frames ≡ true
within_has room frames Token.begin_object is = opened_has room frames (in_object json.no_members) is
within_has room frames Token.end_object is = object_has room frames is
within_has room frames Token.begin_array is = opened_has room frames (in_array json.no_items) is
within_has room frames Token.end_array is = array_has room frames is
within_has room frames (Token.key s) is = key_has room frames s is
within_has room frames (Token.string s) is = (value_has room frames (json.string s) is).0
within_has room frames (Token.number s) is = (value_has room frames (json.number s) is).0
within_has room frames (Token.boolean b) is = (value_has room frames (json.boolean b) is).0
within_has room frames Token.null is = (value_has room frames json.null is).0
within_has room frames Token.bad is = absurd (false≢true is)

next_has : (s : StackState) (t : Token) → state_data (next_state s t) ≡ true → state_data s ≡ true
next_has (reading room frames) t is = within_has room frames t is
next_has (done j) t is = absurd (false≢true is)
next_has failed t is = is

pub after_has : (s : StackState) (ts : List Token) → state_data (state_after s ts) ≡ true → state_data s ≡ true
unfolding state_after
after_has s [] is = is
after_has s (t ∷ ts) is = next_has s t (after_has (next_state s t) ts is)

pub result_has : (s : StackState) → is_some (option_and_then of_json (result_of s)) ≡ true → state_data s ≡ true
result_has (reading room frames) is = absurd (false≢true is)
result_has (done j) is = is
result_has failed is = is

pub none_if : (o : Option Data) → (is_some o ≡ true → ⊥) → o ≡ None
none_if None never = refl
none_if (Some d) never = absurd (never refl)

number_has : (s : List ℕ) (r : StackState) → number_of s ≡ None → state_data (next_state r (Token.number s)) ≡ true → ⊥
number_has s (reading room frames) none is = false≢true (sym (ap (λ o. is_some (option_map number o)) none) ∙ (value_has room frames (json.number s) is).1)
number_has s (done j) none is = false≢true is
number_has s failed none is = false≢true is

pub none_behind_number : (text : List ℕ) → number_of text ≡ None → (s : StackState) (more : List Token) → option_and_then of_json (result_of (state_after (next_state s (Token.number text)) more)) ≡ None
none_behind_number text none s more =
    none_if (option_and_then of_json (result_of (state_after (next_state s (Token.number text)) more)))
    (λ some. number_has text s none (after_has (next_state s (Token.number text)) more (result_has (state_after (next_state s (Token.number text)) more) some)))

pub number_unread : (text : List ℕ) → number_of text ≡ None → (old : Speller) → RefusesToken old (Token.number text)
number_unread text none old s at more = none_behind_number text none s more
