-- A judge goes on with tokens as the machine with a stack does.
use Rattle.std.proofs.Common.{◌≡◌, ◌≢◌, ℕ, zero, suc, ℤ, ◌+◌, ◌-◌, ◌<◌, ◌≤◌, List, [], ◌∷◌, ◌++◌, length, reverse, map, Bool, true, false, not, ◌&&◌, ◌||◌, nat_lt, ◌↔◌, IsTrue, Option, Some, None, option_map, option_and_then, is_some, unwrap_or, string_bytes, refl, sym, ap, ap₂, ◌∙◌, subst, arith}
use Rattle.std.specs.Option.{option_to_list}
use Rattle.std.proofs.lemmas.Bool.{false≢true, le-leb}
use Rattle.std.proofs.lemmas.List.{length-reverse}
use Rattle.json.specs.Token.{Token}
use Rattle.json.specs.Json as json
use Rattle.json.specs.Json.{Json}
use Rattle.json_stack.specs.Machine.{items_and, members_and, Frame, in_array, in_object, in_member, StackState, reading, done, failed, awaits_value, value_ended, opened_frame, array_ended, object_ended, key_read, state_within, next_state, state_after, start_state, result_of}
use Rattle.json_stack.proofs.Reading.{machine_reads}
use Rattle.json_stack.proofs.Runs.{state_after-append}
use Rattle.serde_json.specs.Data.{Num, unsigned, negative, float, Data, null, boolean, number, string, array, object, Items, Members, no_members, put, depth}
use Rattle.serde_json.specs.Find.{as_object, as_integer, is_float}
use Rattle.serde_json.specs.Read.{of_json, of_items, of_members, max_depth}
use Rattle.serde_json.specs.Written.{has_float}
use Rattle.json_spelling.specs.Judge.{has_unfit, unfit_keys, IsNoted, AreNoted, IsJudgeAt, with_opened, frame_with, EndsValue, JudgesToken, BarsToken, HasJudged}
use Rattle.json_spelling.specs.Metadata.{is_whole, is_metadata, if_metadata}
use Rattle.json_spelling.specs.Sound.{MembersAreSound}
use Rattle.json_spelling.specs.Spelled.{data_of}
use Rattle.json_spelling.specs.Speller.{DataFrame, data_array, data_object, data_member, IsFrameData, AreFrameData, items_with, awaits, with_value, IsPlainValue}
use Rattle.json_spelling.specs.declared.judge.Bracket.{Bracket}
use Rattle.json_spelling.specs.declared.judge.Judge.{Judge}
use Rattle.json_spelling.specs.declared.judge.Noted.{Noted}
use Rattle.json_spelling.proofs.DataFrames.{of_items-items_and, of_members-members_and}
use Rattle.json_spelling.proofs.Following.{reverse_more, length_more, as_many_data, some_same, next_as_value, no_frame, opened_here, plain_value, none_after, data_read}
use Rattle.json_spelling.proofs.SoundLemmas.{members_made_sound}
use Rattle.json_spelling.proofs.Unfit.{unfit_item, array_fit, object_fit}

-- ---- what is open, innermost first

as_many_noted : (fs : List DataFrame) (bs : List Bracket) → AreNoted fs bs → length fs ≡ length bs
as_many_noted [] [] are = refl
as_many_noted [] (b ∷ bs) are = absurd are
as_many_noted (f ∷ fs) [] are = absurd are
as_many_noted (f ∷ fs) (b ∷ bs) are = omega (arith, as_many_noted fs bs are.1)

-- as many frames are open as there are brackets
as_many_open : (judge : Judge) (room : ℕ) (frames : List Frame) → IsJudgeAt (reading room frames) judge → length frames ≡ length judge.opened.items
as_many_open judge room frames at = omega (arith, as_many_data frames at.0 at.1, as_many_noted at.0 (reverse judge.opened.items) at.2, length-reverse judge.opened.items)

none_open : (frames : List Frame) → length frames ≡ 0 → frames ≡ []
none_open [] is = refl
none_open (frame ∷ frames) is = let never : ⊥ = omega (arith, is) in absurd never

-- the innermost frame, of which the last bracket is kept
record IsTop (room : ℕ) (frames : List Frame) (rest : List Bracket) (b : Bracket) : Type 0 where
  frame : Frame
  below : List Frame
  f : DataFrame
  fs : List DataFrame
  are : frames ≡ frame ∷ below
  is : IsFrameData frame f
  around : awaits_value below ≡ true
  data_are : AreFrameData below fs
  noted : IsNoted (100 - suc (length fs)) f b
  those : AreNoted fs (reverse rest)
  sum : suc (length below) + room ≡ max_depth

top : (judge : Judge) (rest : List Bracket) (b : Bracket) → judge.opened.items ≡ rest ++ b ∷ [] → (room : ℕ) (frames : List Frame) → IsJudgeAt (reading room frames) judge → IsTop room frames rest b
top judge rest b was room frames at = go frames at.0 at.1 (subst (λ bs. AreNoted at.0 bs) (ap reverse was ∙ reverse_more rest b) at.2) at.3
  where
    go : (frames : List Frame) (fs : List DataFrame) → AreFrameData frames fs → AreNoted fs (b ∷ reverse rest) → length frames + room ≡ max_depth → IsTop room frames rest b
    go [] [] are noted sum = absurd noted
    go [] (f ∷ fs) are noted sum = absurd are
    go (frame ∷ below) [] are noted sum = absurd are
    go (frame ∷ below) (f ∷ fs) are noted sum = record {
      frame = frame;
      below = below;
      f = f;
      fs = fs;
      are = refl;
      is = are.0;
      around = are.1;
      data_are = are.2;
      noted = noted.0;
      those = noted.1;
      sum = sum;
    }

-- nothing is open once the whole has ended
none_ended : {A : Type 0} (judge : Judge) (rest : List Bracket) (b : Bracket) → judge.opened.items ≡ rest ++ b ∷ [] → judge.opened.items ≡ [] → A
none_ended judge rest b was none = let never : ⊥ = omega (arith, ap length (sym was ∙ none), length_more rest b) in absurd never

-- the judge with other brackets, at the frames that these are kept of
stands : (judge : Judge) (bs : List Bracket) (room : ℕ) (frames : List Frame) (fs : List DataFrame) → reverse judge.opened.items ≡ bs → AreFrameData frames fs → AreNoted fs bs → length frames + room ≡ max_depth → judge.verdict ≡ None → IsJudgeAt (reading room frames) judge
stands judge bs room frames fs same are noted sum going = (fs, are, subst (λ x. AreNoted fs x) (sym same) noted, sum, going)

-- ---- its kind

array_top : (levels : ℕ) (frame : Frame) (f : DataFrame) (unfit : Bool) → IsFrameData frame f → IsNoted levels f (Bracket.Array unfit) → (js : json.Items) × (ds : Items) × (frame ≡ in_array js) × (of_items js ≡ Some ds) × (unfit ≡ has_unfit levels ds)
array_top levels (in_array js) (data_array ds) unfit is noted = (js, ds, refl, is, noted)
array_top levels (in_object js) (data_array ds) unfit is noted = absurd is
array_top levels (in_member js k) (data_array ds) unfit is noted = absurd is
array_top levels frame (data_object ms) unfit is noted = absurd noted
array_top levels frame (data_member ms k) unfit is noted = absurd noted

object_top : (levels : ℕ) (frame : Frame) (f : DataFrame) (noted : Noted) → IsFrameData frame f → IsNoted levels f (Bracket.Object noted)
    → (js : json.Members) × (ms : Members) × (frame ≡ in_object js) × (of_members js no_members ≡ Some ms) × (map string_bytes noted.unfit.keys ≡ unfit_keys levels ms)
object_top levels (in_object js) (data_object ms) noted is so = (js, ms, refl, is, so)
object_top levels (in_array js) (data_object ms) noted is so = absurd is
object_top levels (in_member js k) (data_object ms) noted is so = absurd is
object_top levels frame (data_array ds) noted is so = absurd so
object_top levels frame (data_member ms k) noted is so = absurd so

-- ---- an array or object opens

pub frame_opened : (old new : Judge) (b : Bracket) → length old.opened.items < 127 → new.opened.items ≡ old.opened.items ++ b ∷ [] → new.verdict ≡ old.verdict → (s : StackState) (frame : Frame) (f : DataFrame) → IsFrameData frame f → ((levels : ℕ) → IsNoted levels f b)
    → awaits s ≡ true → IsJudgeAt s old → IsJudgeAt (with_opened s frame) new
frame_opened old new b less grown kept (reading zero frames) frame f is noted here at = let never : ⊥ = omega (arith, as_many_open old zero frames at, at.3, less) in absurd never
frame_opened old new b less grown kept (reading (suc room) frames) frame f is noted here at =
    subst (λ s. IsJudgeAt s new) (sym (opened_here room frames frame here))
    (stands new (b ∷ reverse old.opened.items) room (frame ∷ frames) (f ∷ at.0) (ap reverse grown ∙ reverse_more old.opened.items b) (is, here, at.1) (noted _, at.2) (omega (arith, at.3)) (kept ∙ at.4))
frame_opened old new b less grown kept (done j) frame f is noted here at = absurd (false≢true here)
frame_opened old new b less grown kept failed frame f is noted here at = absurd at

-- it opens, wherever it may
abbrev Opens : Judge → Bracket → Judge → Type 0
Opens old b new = (s : StackState) (frame : Frame) (f : DataFrame) → IsFrameData frame f → ((levels : ℕ) → IsNoted levels f b) → IsJudgeAt s old → IsJudgeAt (with_opened s frame) new

abbrev IsOpening : Token → Frame → Type 0
IsOpening t frame = (room : ℕ) (frames : List Frame) → state_within room frames t ≡ opened_frame room frames frame

next_as_frame : (t : Token) (frame : Frame) → IsOpening t frame → (s : StackState) → next_state s t ≡ with_opened s frame
next_as_frame t frame step (reading room frames) = step room frames
next_as_frame t frame step (done j) = refl
next_as_frame t frame step failed = refl

pub opening_judged : (t : Token) (frame : Frame) (f : DataFrame) (b : Bracket) → IsOpening t frame → IsFrameData frame f → ((levels : ℕ) → IsNoted levels f b) → (old new : Judge) → Opens old b new → JudgesToken old t new
opening_judged t frame f b step is noted old new opens s at = subst (λ r. IsJudgeAt r new) (sym (next_as_frame t frame step s)) (opens s frame f is noted at)

pub opening_barred : (t : Token) (frame : Frame) → IsOpening t frame → (old : Judge) → ((s : StackState) (frame : Frame) → IsJudgeAt s old → with_opened s frame ≡ failed) → BarsToken old t
opening_barred t frame step old none s at more = none_after (next_state s t) (next_as_frame t frame step s ∙ none s frame at) more

pub no_frame_here : (s : StackState) (frame : Frame) → awaits s ≡ false → with_opened s frame ≡ failed
no_frame_here (reading room frames) frame none = no_frame room frames frame none
no_frame_here (done j) frame none = refl
no_frame_here failed frame none = refl

pub no_level_left : (judge : Judge) → 127 ≤ length judge.opened.items → (s : StackState) (frame : Frame) → IsJudgeAt s judge → with_opened s frame ≡ failed
no_level_left judge many (reading zero frames) frame at = refl
no_level_left judge many (reading (suc room) frames) frame at = let never : ⊥ = omega (arith, as_many_open judge (suc room) frames at, at.3, many) in absurd never
no_level_left judge many (done j) frame at = refl
no_level_left judge many failed frame at = absurd at

-- ---- and closes

module _ (old mid new : Judge) (rest : List Bracket) (b : Bracket) (was : old.opened.items ≡ rest ++ b ∷ []) (now : mid.opened.items ≡ rest) (kept : mid.verdict ≡ old.verdict) where
  -- what is around it awaits its value
  around_it : (room : ℕ) (frames : List Frame) (t : IsTop room frames rest b) → old.verdict ≡ None → IsJudgeAt (reading (suc room) t.below) mid
  around_it room frames t going = stands mid (reverse rest) (suc room) t.below t.fs (ap reverse now) t.data_are t.those (omega (arith, t.sum)) (kept ∙ going)

  as_many_around : (room : ℕ) (frames : List Frame) (t : IsTop room frames rest b) → (length rest ≡ length t.below) × (length t.fs ≡ length t.below)
  as_many_around room frames t =
      let data_many = as_many_data t.below t.fs t.data_are in
      (omega (arith, data_many, as_many_noted t.fs (reverse rest) t.those, length-reverse rest), sym data_many)

pub array_judged : (old mid new : Judge) (rest : List Bracket) (unfit fit : Bool) → old.opened.items ≡ rest ++ Bracket.Array unfit ∷ [] → mid.opened.items ≡ rest → mid.verdict ≡ old.verdict → fit ≡ (not unfit && nat_lt (length rest) 100) → EndsValue mid false fit new
    → JudgesToken old Token.end_array new
array_judged old mid new rest unfit fit was now kept is ends (reading room frames) at =
    let t = top old rest (Bracket.Array unfit) was room frames at in
    let many = as_many_around old mid new rest (Bracket.Array unfit) was now kept room frames t in
    let kind = array_top (100 - suc (length t.fs)) t.frame t.f unfit t.is t.noted in
    let here : frames ≡ in_array kind.0 ∷ t.below = t.are ∙ ap (λ frame. frame ∷ t.below) kind.2 in
    let noted = kind.4 ∙ ap (λ n. has_unfit (100 - suc n) kind.1) many.1 in
    let fits = array_fit kind.1 (length t.below) unfit fit noted (is ∙ ap (λ n. not unfit && nat_lt n 100) many.0) in
    subst (λ fs. IsJudgeAt (array_ended room fs) new) (sym here)
    (ends (reading (suc room) t.below) (json.array kind.0) (array kind.1) (ap (option_map array) kind.3) refl fits t.around (around_it old mid new rest (Bracket.Array unfit) was now kept room frames t at.4))
array_judged old mid new rest unfit fit was now kept is ends (done j) at = none_ended old rest (Bracket.Array unfit) was at.2
array_judged old mid new rest unfit fit was now kept is ends failed at = absurd at

pub object_judged : (old mid new : Judge) (rest : List Bracket) (noted : Noted) (empty fit : Bool) → old.opened.items ≡ rest ++ Bracket.Object noted ∷ [] → mid.opened.items ≡ rest → mid.verdict ≡ old.verdict → (IsTrue empty ↔ (length noted.unfit.keys ≡ 0)) → fit ≡ (empty && nat_lt (length rest) 100)
    → EndsValue mid true fit new → JudgesToken old Token.end_object new
object_judged old mid new rest noted empty fit was now kept none is ends (reading room frames) at =
    let t = top old rest (Bracket.Object noted) was room frames at in
    let many = as_many_around old mid new rest (Bracket.Object noted) was now kept room frames t in
    let kind = object_top (100 - suc (length t.fs)) t.frame t.f noted t.is t.noted in
    let here : frames ≡ in_object kind.0 ∷ t.below = t.are ∙ ap (λ frame. frame ∷ t.below) kind.2 in
    let so = kind.4 ∙ ap (λ n. unfit_keys (100 - suc n) kind.1) many.1 in
    let fits = object_fit kind.1 (length t.below) noted.unfit.keys empty fit so none (is ∙ ap (λ n. empty && nat_lt n 100) many.0) in
    subst (λ fs. IsJudgeAt (object_ended room fs) new) (sym here)
    (ends (reading (suc room) t.below) (json.object kind.0) (object kind.1) (ap (option_map object) kind.3) refl fits t.around (around_it old mid new rest (Bracket.Object noted) was now kept room frames t at.4))
object_judged old mid new rest noted empty fit was now kept none is ends (done j) at = none_ended old rest (Bracket.Object noted) was at.2
object_judged old mid new rest noted empty fit was now kept none is ends failed at = absurd at

-- ---- a key

pub key_judged : (k : List ℕ) (old new : Judge) (rest : List Bracket) (noted after : Noted) → old.opened.items ≡ rest ++ Bracket.Object noted ∷ [] → new.opened.items ≡ rest ++ Bracket.Member after ∷ [] → new.verdict ≡ old.verdict → after.unfit.keys ≡ noted.unfit.keys → string_bytes after.key ≡ k
    → JudgesToken old (Token.key k) new
key_judged k old new rest noted after was now kept same named (reading room frames) at =
    let t = top old rest (Bracket.Object noted) was room frames at in
    let levels = 100 - suc (length t.fs) in
    let kind = object_top levels t.frame t.f noted t.is t.noted in
    let here : frames ≡ in_object kind.0 ∷ t.below = t.are ∙ ap (λ frame. frame ∷ t.below) kind.2 in
    let so = ap (map string_bytes) same ∙ kind.4 in
    subst (λ fs. IsJudgeAt (key_read room fs k) new) (sym here)
    (stands new (Bracket.Member after ∷ reverse rest) room (in_member kind.0 k ∷ t.below) (data_member kind.1 k ∷ t.fs) (ap reverse now ∙ reverse_more rest (Bracket.Member after))
    ((kind.3, refl), t.around, t.data_are) ((so, named), t.those) t.sum (kept ∙ at.4))
key_judged k old new rest noted after was now kept same named (done j) at = none_ended old rest (Bracket.Object noted) was at.2
key_judged k old new rest noted after was now kept same named failed at = absurd at

-- ---- a value has ended

-- what is kept of the innermost is then kept of it with the value
abbrev TakesValue : Bool → Bracket → Bracket → Type 0
TakesValue fit b after = (levels : ℕ) (frame : Frame) (f : DataFrame) (d : Data) → IsFrameData frame f → fit ≡ is_whole d levels → IsNoted levels f b → IsNoted levels (frame_with f d) after

pub item_noted : (unfit fit : Bool) → TakesValue fit (Bracket.Array unfit) (Bracket.Array (unfit || not fit))
item_noted unfit fit levels (in_array js) (data_array ds) d is fits noted = ap₂ (λ a b. a || not b) noted fits ∙ sym (unfit_item levels ds d)
item_noted unfit fit levels (in_object js) (data_array ds) d is fits noted = absurd is
item_noted unfit fit levels (in_member js k) (data_array ds) d is fits noted = absurd is
item_noted unfit fit levels frame (data_object ms) d is fits noted = absurd noted
item_noted unfit fit levels frame (data_member ms k) d is fits noted = absurd noted

abbrev TakesMember : Bool → Noted → Noted → Type 0
TakesMember fit old new = (levels : ℕ) (ms : Members) (k : List ℕ) (d : Data) → MembersAreSound ms → fit ≡ is_whole d levels → IsNoted levels (data_member ms k) (Bracket.Member old) → IsNoted levels (data_object (put k d ms)) (Bracket.Object new)

pub member_noted : (old new : Noted) (fit : Bool) → TakesMember fit old new → TakesValue fit (Bracket.Member old) (Bracket.Object new)
member_noted old new fit takes levels (in_member js l) (data_member ms k) d is fits noted = takes levels ms k d (members_made_sound js ms is.0) fits noted
member_noted old new fit takes levels (in_array js) (data_member ms k) d is fits noted = absurd is
member_noted old new fit takes levels (in_object js) (data_member ms k) d is fits noted = absurd is
member_noted old new fit takes levels frame (data_array ds) d is fits noted = absurd noted
member_noted old new fit takes levels frame (data_object ms) d is fits noted = absurd noted

pub inner_ended : (old new : Judge) (rest : List Bracket) (b after : Bracket) (is_one fit : Bool) → old.opened.items ≡ rest ++ b ∷ [] → new.opened.items ≡ rest ++ after ∷ [] → new.verdict ≡ old.verdict → TakesValue fit b after → EndsValue old is_one fit new
inner_ended old new rest b after is_one fit was now kept takes (reading room frames) j d made kind fits here at =
    let t = top old rest b was room frames at in
    let many = as_many_data t.below t.fs t.data_are in
    let level : 100 - length frames ≡ 100 - suc (length t.fs) = ap (λ fs. 100 - length fs) t.are ∙ ap (λ n. 100 - suc n) many in
    let noted = takes (100 - suc (length t.fs)) t.frame t.f d t.is (fits ∙ ap (is_whole d) level) t.noted in
    subst (λ fs. IsJudgeAt (value_ended room fs j) new) (sym t.are) (go t.frame t.below t.f t.fs t.is noted t.around t.data_are t.those t.sum (ap awaits_value (sym t.are) ∙ here))
  where
    all : (frame : Frame) (below : List Frame) (f : DataFrame) (fs : List DataFrame) → IsFrameData frame f → IsNoted (100 - suc (length fs)) f after → awaits_value below ≡ true → AreFrameData below fs → AreNoted fs (reverse rest) → suc (length below) + room ≡ max_depth → IsJudgeAt (reading room (frame ∷ below)) new
    all frame below f fs is noted around data_are those sum = stands new (after ∷ reverse rest) room (frame ∷ below) (f ∷ fs) (ap reverse now ∙ reverse_more rest after) (is, around, data_are) (noted, those) sum (kept ∙ at.4)

    go : (frame : Frame) (below : List Frame) (f : DataFrame) (fs : List DataFrame) → IsFrameData frame f → IsNoted (100 - suc (length fs)) (frame_with f d) after → awaits_value below ≡ true → AreFrameData below fs → AreNoted fs (reverse rest) → suc (length below) + room ≡ max_depth
        → awaits_value (frame ∷ below) ≡ true → IsJudgeAt (value_ended room (frame ∷ below) j) new
    go (in_array js) below (data_array ds) fs is noted around data_are those sum here =
        let more = of_items-items_and js j ∙ ap₂ (λ o i. option_and_then (λ es. option_map (items_with es) i) o) is made in
        all (in_array (items_and js j)) below (data_array (items_with ds d)) fs more noted around data_are those sum
    go (in_array js) below (data_object ms) fs is noted around data_are those sum here = absurd is
    go (in_array js) below (data_member ms k) fs is noted around data_are those sum here = absurd is
    go (in_object js) below f fs is noted around data_are those sum here = absurd (false≢true here)
    go (in_member js l) below (data_array ds) fs is noted around data_are those sum here = absurd is
    go (in_member js l) below (data_object ms) fs is noted around data_are those sum here = absurd is
    go (in_member js l) below (data_member ms k) fs is noted around data_are those sum here =
        let more = of_members-members_and js l j no_members ∙ ap₂ (λ o i. option_and_then (λ es. option_map (λ e. put l e es) i) o) is.0 made ∙ ap (λ n. Some (put n d ms)) is.1 in
        all (in_object (members_and js l j)) below (data_object (put k d ms)) fs more noted around data_are those sum
inner_ended old new rest b after is_one fit was now kept takes (done i) j d made kind fits here at = absurd (false≢true here)
inner_ended old new rest b after is_one fit was now kept takes failed j d made kind fits here at = absurd at

-- ---- a value of one token

pub scalar_fit : (d : Data) (levels : ℕ) (fit : Bool) → depth d ≡ 0 → fit ≡ not (has_float d) → fit ≡ is_whole d levels
scalar_fit d levels fit flat is = is ∙ and_true (not (has_float d)) ∙ ap (λ b. not (has_float d) && b) (sym (le-leb (depth d) levels (omega (arith, flat))))
  where
    and_true : (b : Bool) → b ≡ (b && true)
    and_true true = refl
    and_true false = refl

pub scalar_kind : (d : Data) → depth d ≡ 0 → false ≡ is_some (as_object d)
scalar_kind null flat = refl
scalar_kind (boolean b) flat = refl
scalar_kind (number n) flat = refl
scalar_kind (string s) flat = refl
scalar_kind (array ds) flat = refl
scalar_kind (object ms) flat = let never : ⊥ = omega (arith, flat) in absurd never

-- a number
whole_number : (n : Num) → is_some (as_integer n) ≡ not (is_float n)
whole_number (unsigned n) = refl
whole_number (negative z) = refl
whole_number (float x) = refl

pub number_missing : (o : Option Num) → option_map as_integer o ≡ None → o ≡ None
number_missing None is = refl
number_missing (Some n) is = absurd cc

pub number_found : (o : Option Num) (whole : Option ℤ) → Some whole ≡ option_map as_integer o → (n : Num) × (o ≡ Some n) × (is_some whole ≡ not (is_float n))
number_found None whole is = absurd cc
number_found (Some n) whole is = (n, refl, ap is_some (some_same whole (as_integer n) is) ∙ whole_number n)

-- it is judged as fit, or not, wherever it is awaited
abbrev TakesScalar : Judge → Bool → Judge → Type 0
TakesScalar old fit new = (s : StackState) (j : Json) (d : Data) → of_json j ≡ Some d → depth d ≡ 0 → fit ≡ not (has_float d) → IsJudgeAt s old → IsJudgeAt (with_value s j) new

abbrev IsValue : Token → Json → Type 0
IsValue t j = (room : ℕ) (frames : List Frame) → state_within room frames t ≡ value_ended room frames j

pub scalar_judged : (t : Token) (j : Json) (d : Data) (fit : Bool) → IsValue t j → of_json j ≡ Some d → depth d ≡ 0 → fit ≡ not (has_float d) → (old new : Judge) → TakesScalar old fit new → JudgesToken old t new
scalar_judged t j d fit step made flat is old new takes s at = subst (λ r. IsJudgeAt r new) (sym (next_as_value t j step s)) (takes s j d made flat is at)

pub scalar_barred : (t : Token) (j : Json) → IsValue t j → (old : Judge) → ((s : StackState) (j : Json) → IsJudgeAt s old → with_value s j ≡ failed) → BarsToken old t
scalar_barred t j step old none s at more = none_after (next_state s t) (next_as_value t j step s ∙ none s j at) more

-- or no number
pub plain_judged : (t : Token) → IsPlainValue t → (old new : Judge) → TakesScalar old true new → JudgesToken old t new
plain_judged t plain old new =
    let p = plain_value t plain in
    scalar_judged t p.0 p.1 true p.2 p.3 p.4 (sym (ap not p.6)) old new

pub plain_barred : (t : Token) → IsPlainValue t → (old : Judge) → ((s : StackState) (j : Json) → IsJudgeAt s old → with_value s j ≡ failed) → BarsToken old t
plain_barred t plain = let p = plain_value t plain in scalar_barred t p.0 p.2

-- ---- no value goes on so

pub bad_barred : (old : Judge) → BarsToken old Token.bad
bad_barred old s at more = none_after (next_state s Token.bad) (fails s) more
  where
    fails : (s : StackState) → next_state s Token.bad ≡ failed
    fails (reading room frames) = refl
    fails (done j) = refl
    fails failed = refl

bars_failed : (t : Token) (old : Judge) → ((s : StackState) → IsJudgeAt s old → next_state s t ≡ failed) → BarsToken old t
bars_failed t old failing s at more = none_after (next_state s t) (failing s at) more

bars_within : (t : Token) (old : Judge) (rest : List Bracket) (o : Option Bracket) → old.opened.items ≡ rest ++ option_to_list o → (o ≡ None → length old.opened.items ≡ 0) → ((room : ℕ) → state_within room [] t ≡ failed)
    → ((levels room : ℕ) (frame : Frame) (below : List Frame) (f : DataFrame) (b : Bracket) → o ≡ Some b → IsFrameData frame f → IsNoted levels f b → state_within room (frame ∷ below) t ≡ failed) → BarsToken old t
bars_within t old rest o was none first other = bars_failed t old (failing o was none other)
  where
    failing : (o : Option Bracket) → old.opened.items ≡ rest ++ option_to_list o → (o ≡ None → length old.opened.items ≡ 0)
        → ((levels room : ℕ) (frame : Frame) (below : List Frame) (f : DataFrame) (b : Bracket) → o ≡ Some b → IsFrameData frame f → IsNoted levels f b → state_within room (frame ∷ below) t ≡ failed)
        → (s : StackState) → IsJudgeAt s old → next_state s t ≡ failed
    failing None was none other (reading room frames) at = ap (λ fs. state_within room fs t) (none_open frames (omega (arith, as_many_open old room frames at, none refl))) ∙ first room
    failing (Some b) was none other (reading room frames) at =
        let p = top old rest b was room frames at in
        ap (λ fs. state_within room fs t) p.are ∙ other (100 - suc (length p.fs)) room p.frame p.below p.f b refl p.is p.noted
    failing o was none other (done j) at = refl
    failing o was none other failed at = refl

module _ (old : Judge) (rest : List Bracket) (o : Option Bracket) (was : old.opened.items ≡ rest ++ option_to_list o) (none : o ≡ None → length old.opened.items ≡ 0) where
  pub bars_array_end : ((unfit : Bool) → o ≢ Some (Bracket.Array unfit)) → BarsToken old Token.end_array
  bars_array_end other = bars_within Token.end_array old rest o was none (λ room. refl) fails
    where
      fails : (levels room : ℕ) (frame : Frame) (below : List Frame) (f : DataFrame) (b : Bracket) → o ≡ Some b → IsFrameData frame f → IsNoted levels f b → array_ended room (frame ∷ below) ≡ failed
      fails levels room (in_array js) below (data_array ds) (Bracket.Array unfit) same is noted = absurd (other unfit same)
      fails levels room (in_array js) below (data_array ds) (Bracket.Object n) same is noted = absurd noted
      fails levels room (in_array js) below (data_array ds) (Bracket.Member n) same is noted = absurd noted
      fails levels room (in_array js) below (data_object ms) b same is noted = absurd is
      fails levels room (in_array js) below (data_member ms k) b same is noted = absurd is
      fails levels room (in_object js) below f b same is noted = refl
      fails levels room (in_member js k) below f b same is noted = refl

  no_object : ((noted : Noted) → o ≢ Some (Bracket.Object noted)) → (A : List Frame → Type 0) → ((js : json.Items) (below : List Frame) → A (in_array js ∷ below)) → ((js : json.Members) (k : List ℕ) (below : List Frame) → A (in_member js k ∷ below))
      → (levels : ℕ) (frame : Frame) (below : List Frame) (f : DataFrame) (b : Bracket) → o ≡ Some b → IsFrameData frame f → IsNoted levels f b → A (frame ∷ below)
  no_object other A arrays members levels (in_array js) below f b same is noted = arrays js below
  no_object other A arrays members levels (in_member js k) below f b same is noted = members js k below
  no_object other A arrays members levels (in_object js) below (data_object ms) (Bracket.Object n) same is noted = absurd (other n same)
  no_object other A arrays members levels (in_object js) below (data_object ms) (Bracket.Array unfit) same is noted = absurd noted
  no_object other A arrays members levels (in_object js) below (data_object ms) (Bracket.Member n) same is noted = absurd noted
  no_object other A arrays members levels (in_object js) below (data_array ds) b same is noted = absurd is
  no_object other A arrays members levels (in_object js) below (data_member ms k) b same is noted = absurd is

  pub bars_object_end : ((noted : Noted) → o ≢ Some (Bracket.Object noted)) → BarsToken old Token.end_object
  bars_object_end other =
      bars_within Token.end_object old rest o was none (λ room. refl) (λ levels room. no_object other (λ frames. object_ended room frames ≡ failed) (λ js below. refl) (λ js k below. refl) levels)

  pub bars_key : ((noted : Noted) → o ≢ Some (Bracket.Object noted)) → (k : List ℕ) → BarsToken old (Token.key k)
  bars_key other k =
      bars_within (Token.key k) old rest o was none (λ room. refl) (λ levels room. no_object other (λ frames. key_read room frames k ≡ failed) (λ js below. refl) (λ js l below. refl) levels)

-- ---- all tokens so far

pub tokens_judged : (t : Token) (old new : Judge) → JudgesToken old t new → (ts : List Token) → HasJudged ts old → HasJudged (ts ++ t ∷ []) new
unfolding state_after
tokens_judged t old new goes ts at = subst (λ s. IsJudgeAt s new) (sym (state_after-append (start_state max_depth) ts (t ∷ []))) (goes (state_after (start_state max_depth) ts) at)

pub tokens_barred : (t : Token) (old : Judge) → BarsToken old t → (ts more : List Token) → HasJudged ts old → data_of (ts ++ t ∷ more) ≡ None
unfolding state_after
tokens_barred t old bars ts more at =
    ap (option_and_then of_json) (machine_reads max_depth (ts ++ t ∷ more)) ∙ ap (λ s. option_and_then of_json (result_of s)) (state_after-append (start_state max_depth) ts (t ∷ more)) ∙ bars (state_after (start_state max_depth) ts) at more

if_is : (d : Data) (b : Bool) → is_metadata d ≡ b → is_some (if_metadata d) ≡ b
if_is d true is = rw is
if_is d false is = rw is

-- whether they are those of metadata
pub metadata_judged : (judge : Judge) (is : Bool) → is ≡ unwrap_or judge.verdict false → (ts : List Token) → HasJudged ts judge → is ≡ is_some (option_and_then if_metadata (data_of ts))
metadata_judged judge is same ts at = go (state_after (start_state max_depth) ts) refl at
  where
    go : (s : StackState) → state_after (start_state max_depth) ts ≡ s → IsJudgeAt s judge → is ≡ is_some (option_and_then if_metadata (data_of ts))
    go (reading room frames) here at = same ∙ ap (λ v. unwrap_or v false) at.4 ∙ sym (ap (λ o. is_some (option_and_then if_metadata o)) (data_read ts (reading room frames) here))
    go (done j) here at =
        same ∙ ap (λ v. unwrap_or v false) at.3 ∙ sym (if_is at.0 (is_metadata at.0) refl) ∙ sym (ap (λ o. is_some (option_and_then if_metadata o)) (data_read ts (done j) here ∙ at.1))
    go failed here at = absurd at
