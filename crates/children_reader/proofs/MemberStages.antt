-- What a reader of members knows of what is open, one value or token after another.
use Rattle.std.proofs.Common.{◌≡◌, ℕ, ◌+◌, List, [], ◌∷◌, ◌++◌, length, Bool, true, false, Option, Some, None, option_map, option_and_then, Result, String, Global, string_bytes, refl, sym, ap, ap₂, ◌∙◌, subst}
use Rattle.std.proofs.lemmas.Bool.{true≢false}
use Rattle.json.specs.Token.{Token}
use Rattle.json.specs.Json as json
use Rattle.json.specs.Json.{Json}
use Rattle.json_stack.specs.Machine.{items_and, members_and, Frame, in_array, in_object, in_member, StackState, reading, done, failed, awaits_value, value_ended, array_ended, state_within, next_state, state_after, start_state, result_of, whole_value}
use Rattle.json_stack.proofs.Reading.{machine_reads}
use Rattle.json_stack.proofs.Runs.{state_after-append}
use Rattle.serde_json.specs.Data.{Data, string, array, object, Items, no_items, item, Members, no_members, put}
use Rattle.serde_json.specs.Find.{as_object}
use Rattle.serde_json.specs.Read.{of_json, of_items, max_depth}
use Rattle.children_reader.specs.Children.{fields_of}
use Rattle.children_reader.specs.Collected.{AreMembersMade, AreEntered, AreMembersRead}
use Rattle.children_reader.specs.Kept.{IsField, AreChildFields, Outcome, IsOutcome}
use Rattle.children_reader.specs.MemberReader.{NoneAfter, outermost, IsOpen, IsOfBracket, IsEndedField, opens, IsBegunValue, AreListed, IsStage, FitsListed, Fits, ends_array, FirstListed, FitsFirst, FitsKind, object_has_ended, IsAround, IsOn, StandsAt, IsReading}
use Rattle.json_spelling.specs.Spelled.{begins_object, begins_array, data_of}
use Rattle.json_spelling.specs.Speller.{items_with}
use Rattle.children_reader.specs.declared.fields.Field.{Field}
use Rattle.children_reader.specs.declared.fields.Fields.{Fields}
use Rattle.children_reader.specs.declared.member_reader.Begun.{Begun}
use Rattle.children_reader.specs.declared.member_reader.Listed.{Listed}
use Rattle.children_reader.specs.declared.member_reader.MemberReader.{MemberReader}
use Rattle.children_reader.specs.declared.member_reader.Stage.{Stage}
use Rattle.children_reader.specs.declared.member_reader.UnderWay.{UnderWay}
use Rattle.json_spelling.proofs.DataFrames.{of_items-items_and, of_members-members_and}
use Rattle.json_spelling.proofs.Following.{data_read}
use Rattle.children_reader.proofs.Nested.{nested, step_inside, first_inside, refused_inside, refused_first, failed_on}
use Rattle.children_reader.proofs.PutMembers.{put_next}

-- what holds at some frames holds at those that are the same
moved : (P : ℕ → List Frame → Type 0) (room : ℕ) (frames : List Frame) (levels : ℕ) (others : List Frame) → frames ≡ others → room ≡ levels → P levels others → P room frames
moved P room frames levels others same left holds = subst (λ n. P n frames) (sym left) (subst (P levels) (sym same) holds)

-- ---- a value has ended

-- one member more
read_on : (es next : List Outcome) (js : json.Members) (key : String Global) (o : Result _ _) (j : Json) (d : Data) → AreMembersMade es js → of_json j ≡ Some d → next ≡ es ++ ((key, o) ∷ []) → IsOutcome (string_bytes key) d o → AreMembersMade next (members_and js (string_bytes key) j)
read_on es next js key o j d are made pushed is before =
    let at = are before in
    let k = string_bytes key in (
      put k d at.0,
      of_members-members_and js k j before ∙ ap₂ (λ a b. option_and_then (λ ms. option_map (λ e. put k e ms) b) a) at.1 made,
      put_next es next before at.0 key k o d pushed refl is at.2,
    )

pub member_ended : (es next : List Outcome) (key : String Global) (o : Result _ _) → next ≡ es ++ ((key, o) ∷ []) → (room : ℕ) (frames : List Frame) (j : Json) (d : Data) → IsStage (Stage.Member key) es room frames → of_json j ≡ Some d
    → IsOutcome (string_bytes key) d o → IsOn (value_ended room frames j) next Stage.Members None
member_ended es next key o pushed room frames j d at made is =
    moved (λ n fs. IsOn (value_ended n fs j) next Stage.Members None) room frames 126 (in_member at.0 (string_bytes key) ∷ []) at.1 at.2
    (members_and at.0 (string_bytes key) j, refl, refl, read_on es next at.0 key o j d at.3 made pushed is)

more_items : (is : json.Items) (ds : Items) (j : Json) (d : Data) → of_items is ≡ Some ds → of_json j ≡ Some d → of_items (items_and is j) ≡ Some (items_with ds d)
more_items is ds j d are made = of_items-items_and is j ∙ ap₂ (λ a b. option_and_then (λ es. option_map (items_with es) b) a) are made

pub item_ended : (es : List Outcome) (key : String Global) (listed next : Listed) (room : ℕ) (frames : List Frame) (j : Json) (d : Data) → IsStage (Stage.Pair key listed) es room frames → of_json j ≡ Some d
    → ((ds : Items) → AreListed listed ds → AreListed next (items_with ds d)) → IsOn (value_ended room frames j) es (Stage.Pair key next) None
item_ended es key listed next room frames j d at made goes =
    moved (λ n fs. IsOn (value_ended n fs j) es (Stage.Pair key next) None) room frames 125 (in_array at.1 ∷ in_member at.0 (string_bytes key) ∷ []) at.3 at.4
    (at.0, items_and at.1 j, items_with at.2 d, refl, refl, at.5, more_items at.1 at.2 j d at.6 made, goes at.2 at.7)

pub field_ended : (es : List Outcome) (key name : String Global) (fields next : Fields) (room : ℕ) (frames : List Frame) (j : Json) (d : Data) → IsStage (Stage.Field key fields name) es room frames → of_json j ≡ Some d
    → ((ms : Members) → AreChildFields fields ms → AreChildFields next (put (string_bytes name) d ms)) → IsOn (value_ended room frames j) es (Stage.Fields key next) None
field_ended es key name fields next room frames j d at made goes =
    let k = string_bytes name in
    moved (λ n fs. IsOn (value_ended n fs j) es (Stage.Fields key next) None) room frames 124 (in_member at.2 k ∷ in_array at.1 ∷ in_member at.0 (string_bytes key) ∷ []) at.5 at.6 (
      at.0,
      at.1,
      members_and at.2 k j,
      at.3,
      put k d at.4,
      refl,
      refl,
      at.7,
      at.8,
      of_members-members_and at.2 k j no_members ∙ ap₂ (λ a b. option_and_then (λ ms. option_map (λ e. put k e ms) b) a) at.9 made,
      goes at.4 at.10,
    )

-- ---- a token between values

pub list_ended : (es next : List Outcome) (key : String Global) (listed : Listed) (o : Result _ _) → next ≡ es ++ ((key, o) ∷ []) → ((ds : Items) → AreListed listed ds → IsOutcome (string_bytes key) (array ds) o) → (room : ℕ) (frames : List Frame)
    → IsStage (Stage.Pair key listed) es room frames → IsOn (state_within room frames Token.end_array) next Stage.Members None
list_ended es next key listed o pushed is room frames at =
    moved (λ n fs. IsOn (state_within n fs Token.end_array) next Stage.Members None) room frames 125 (in_array at.1 ∷ in_member at.0 (string_bytes key) ∷ []) at.3 at.4
    (members_and at.0 (string_bytes key) (json.array at.1), refl, refl, read_on es next at.0 key o (json.array at.1) (array at.2) at.5 (ap (option_map array) at.6) pushed (is at.2 at.7))

module _ (es : List Outcome) (key : String Global) (fields : Fields) (room : ℕ) (frames : List Frame) (at : IsStage (Stage.Fields key fields) es room frames) where
  pub pair_ended : IsOn (state_within room frames Token.end_object) es (Stage.Pair key (Listed.Pair fields)) None
  pair_ended =
      moved (λ n fs. IsOn (state_within n fs Token.end_object) es (Stage.Pair key (Listed.Pair fields)) None) room frames 124 (in_object at.2 ∷ in_array at.1 ∷ in_member at.0 (string_bytes key) ∷ []) at.5 at.6 (
        at.0,
        items_and at.1 (json.object at.2),
        items_with (item (string at.3) no_items) (object at.4),
        refl,
        refl,
        at.7,
        more_items at.1 (item (string at.3) no_items) (json.object at.2) (object at.4) at.8 (ap (option_map object) at.9),
        (at.3, at.4, refl, at.10),
      )

-- ---- a value begins

-- the stage awaits it
awaited_at : (es : List Outcome) (stage : Stage) (t : Token) → FitsFirst stage t → (levels : ℕ) (frames : List Frame) → IsStage stage es levels frames → awaits_value frames ≡ true
awaited_at es Stage.Members t fits levels frames at = absurd fits
awaited_at es (Stage.Member key) t fits levels frames at = ap awaits_value at.1
awaited_at es (Stage.Pair key listed) t fits levels frames at = ap awaits_value at.3
awaited_at es (Stage.Fields key fields) t fits levels frames at = absurd fits
awaited_at es (Stage.Field key fields name) t fits levels frames at = ap awaits_value at.5
awaited_at es Stage.Ended t fits levels frames at = absurd fits

no_array_end : (listed : Listed) → FirstListed listed Token.end_array → ⊥
no_array_end Listed.Nothing fits = true≢false fits
no_array_end Listed.Text fits = true≢false fits.0
no_array_end (Listed.Pair fields) fits = true≢false fits
no_array_end Listed.Other fits = true≢false fits

-- and no array ends there
no_end_at : (es : List Outcome) (stage : Stage) (t : Token) → FitsFirst stage t → (levels : ℕ) (frames : List Frame) → IsStage stage es levels frames → t ≡ Token.end_array → array_ended levels frames ≡ failed
no_end_at es Stage.Members t fits levels frames at is = absurd fits
no_end_at es (Stage.Member key) t fits levels frames at is = ap (array_ended levels) at.1
no_end_at es (Stage.Pair key listed) t fits levels frames at is = absurd (no_array_end listed (subst (FirstListed listed) is fits))
no_end_at es (Stage.Fields key fields) t fits levels frames at is = absurd fits
no_end_at es (Stage.Field key fields name) t fits levels frames at is = ap (array_ended levels) at.5
no_end_at es Stage.Ended t fits levels frames at is = absurd fits

listed_fits : (listed : Listed) (d : Data) → as_object d ≡ None → FitsListed listed d
listed_fits Listed.Nothing d none = tt
listed_fits Listed.Text d none = none
listed_fits (Listed.Pair fields) d none = tt
listed_fits Listed.Other d none = tt

scalar_fits : (stage : Stage) (t : Token) (d : Data) → FitsFirst stage t → fields_of d ≡ None → as_object d ≡ None → Fits stage d
scalar_fits Stage.Members t d fits child none = absurd fits
scalar_fits (Stage.Member key) t d fits child none = child
scalar_fits (Stage.Pair key listed) t d fits child none = listed_fits listed d none
scalar_fits (Stage.Fields key fields) t d fits child none = absurd fits
scalar_fits (Stage.Field key fields name) t d fits child none = tt
scalar_fits Stage.Ended t d fits child none = absurd fits

an_object : (t : Token) → opens t ≡ true → begins_array t ≡ false → begins_object t ≡ true
an_object Token.begin_object is other = refl
an_object Token.begin_array is other = absurd (true≢false other)
an_object t is other = let never : ⊥ = cc in absurd never

listed_kind : (key : String Global) (listed : Listed) (t : Token) (shape : Bool) → FirstListed listed t → shape ≡ begins_object t → FitsKind (Stage.Pair key listed) shape
listed_kind key Listed.Nothing t shape fits kind = tt
listed_kind key Listed.Text t shape fits kind = kind ∙ fits.1
listed_kind key (Listed.Pair fields) t shape fits kind = tt
listed_kind key Listed.Other t shape fits kind = tt

kind_fits : (stage : Stage) (t : Token) (shape : Bool) → FitsFirst stage t → opens t ≡ true → shape ≡ begins_object t → FitsKind stage shape
kind_fits Stage.Members t shape fits is kind = absurd fits
kind_fits (Stage.Member key) t shape fits is kind = kind ∙ an_object t is fits
kind_fits (Stage.Pair key listed) t shape fits is kind = listed_kind key listed t shape fits kind
kind_fits (Stage.Fields key fields) t shape fits is kind = absurd fits
kind_fits (Stage.Field key fields name) t shape fits is kind = tt
kind_fits Stage.Ended t shape fits is kind = absurd fits

module _ (es : List Outcome) (stage : Stage) (t : Token) (fits : FitsFirst stage t) (levels : ℕ) (frames : List Frame) (at : IsStage stage es levels frames) where
  first_step : state_within levels frames t ≡ nested levels frames (next_state (start_state levels) t)
  first_step = first_inside levels frames (awaited_at es stage t fits levels frames at) t (no_end_at es stage t fits levels frames at)

  pub first_refused : NoneAfter (next_state (start_state levels) t) → NoneAfter (state_within levels frames t)
  first_refused none = refused_first levels frames (awaited_at es stage t fits levels frames at) t (no_end_at es stage t fits levels frames at) none

  pub scalar_read : (field : Field) → IsBegunValue levels t (Begun.Scalar field) → (j : Json) × (d : Data) × (state_within levels frames t ≡ value_ended levels frames j) × (of_json j ≡ Some d) × IsField field d × Fits stage d
  scalar_read field begun = (begun.0, begun.1, first_step ∙ ap (nested levels frames) begun.2, begun.3, begun.4, scalar_fits stage t begun.1 fits begun.5 begun.6)

  pub value_begun : (value : UnderWay) → IsBegunValue levels t (Begun.Open value) → IsOn (state_within levels frames t) es stage (Some value)
  value_begun value begun =
      let open_now = begun.0 in
      subst (λ s. IsOn s es stage (Some value)) (sym (first_step ∙ ap (nested levels frames) open_now.stands)) (record {
        levels = levels;
        outer = frames;
        inner = open_now.frames;
        joined = refl;
        around = at;
        fits = kind_fits stage t value.object fits begun.1 begun.2;
        sum = open_now.sum;
        kind = open_now.kind;
        follows = open_now.follows;
      })

-- ---- a value is under way

kind_awaited : (es : List Outcome) (stage : Stage) (shape : Bool) → FitsKind stage shape → (levels : ℕ) (frames : List Frame) → IsStage stage es levels frames → awaits_value frames ≡ true
kind_awaited es Stage.Members shape fits levels frames at = absurd fits
kind_awaited es (Stage.Member key) shape fits levels frames at = ap awaits_value at.1
kind_awaited es (Stage.Pair key listed) shape fits levels frames at = ap awaits_value at.3
kind_awaited es (Stage.Fields key fields) shape fits levels frames at = absurd fits
kind_awaited es (Stage.Field key fields name) shape fits levels frames at = ap awaits_value at.5
kind_awaited es Stage.Ended shape fits levels frames at = absurd fits

no_child : (shape : Bool) (d : Data) → shape ≡ true → IsOfBracket shape d → fields_of d ≡ None
no_child true d is kind = ap fields_of kind.1
no_child false d is kind = absurd (true≢false (sym is))

no_object : (shape : Bool) (d : Data) → shape ≡ false → IsOfBracket shape d → as_object d ≡ None
no_object true d is kind = absurd (true≢false is)
no_object false d is kind = ap as_object kind.1

value_fits : (stage : Stage) (shape : Bool) (d : Data) → FitsKind stage shape → IsOfBracket shape d → Fits stage d
value_fits Stage.Members shape d fits kind = absurd fits
value_fits (Stage.Member key) shape d fits kind = no_child shape d fits kind
value_fits (Stage.Pair key Listed.Nothing) shape d fits kind = tt
value_fits (Stage.Pair key Listed.Text) shape d fits kind = no_object shape d fits kind
value_fits (Stage.Pair key (Listed.Pair fields)) shape d fits kind = tt
value_fits (Stage.Pair key Listed.Other) shape d fits kind = tt
value_fits (Stage.Fields key fields) shape d fits kind = absurd fits
value_fits (Stage.Field key fields name) shape d fits kind = tt
value_fits Stage.Ended shape d fits kind = absurd fits

module _ (es : List Outcome) (stage : Stage) (value : UnderWay) (t : Token) (room : ℕ) (frames : List Frame) (at : IsAround room frames es stage value) where
  pub is_open : IsOpen at.levels (reading room at.inner) value
  is_open = record { room = room; frames = at.inner; stands = refl; sum = at.sum; kind = at.kind; follows = at.follows }

  around : awaits_value at.outer ≡ true
  around = kind_awaited es stage value.object at.fits at.levels at.outer at.around

  step_from : (inner : List Frame) → length inner + room ≡ at.levels → outermost inner ≡ Some value.object → state_within room (inner ++ at.outer) t ≡ nested at.levels at.outer (state_within room inner t)
  step_from [] sum kind = let never : ⊥ = cc in absurd never
  step_from (frame ∷ inner) sum kind = step_inside at.levels at.outer around room frame inner t sum

  step : state_within room frames t ≡ nested at.levels at.outer (state_within room at.inner t)
  step = ap (λ fs. state_within room fs t) at.joined ∙ step_from at.inner at.sum at.kind

  none_from : (inner : List Frame) → length inner + room ≡ at.levels → outermost inner ≡ Some value.object → NoneAfter (state_within room inner t) → NoneAfter (state_within room (inner ++ at.outer) t)
  none_from [] sum kind none = let never : ⊥ = cc in absurd never
  none_from (frame ∷ inner) sum kind none = refused_inside at.levels at.outer around room frame inner t sum none

  pub value_refused : NoneAfter (state_within room at.inner t) → NoneAfter (state_within room frames t)
  value_refused none = subst (λ fs. NoneAfter (state_within room fs t)) (sym at.joined) (none_from at.inner at.sum at.kind none)

  pub still_open : (next : UnderWay) → next.object ≡ value.object → IsOpen at.levels (state_within room at.inner t) next → IsOn (state_within room frames t) es stage (Some next)
  still_open next same now =
      subst (λ s. IsOn s es stage (Some next)) (sym (step ∙ ap (nested at.levels at.outer) now.stands)) (record {
        levels = at.levels;
        outer = at.outer;
        inner = now.frames;
        joined = refl;
        around = at.around;
        fits = subst (FitsKind stage) (sym same) at.fits;
        sum = now.sum;
        kind = now.kind;
        follows = now.follows;
      })

  pub value_read : (next : UnderWay) (field : Field) → next.object ≡ value.object → IsEndedField (state_within room at.inner t) next field
      → (j : Json) × (d : Data) × (state_within room frames t ≡ value_ended at.levels at.outer j) × (of_json j ≡ Some d) × IsField field d × Fits stage d
  value_read next field same come =
      (come.json, come.value, step ∙ ap (nested at.levels at.outer) come.stands, come.made, come.is, value_fits stage value.object come.value at.fits (subst (λ b. IsOfBracket b come.value) same come.kind))

-- ---- all that is known

-- what holds of a stage's frames holds where the reader stands
pub outside : (es : List Outcome) (stage : Stage) → (stage ≡ Stage.Ended → ⊥) → (P : StackState → Type 0) → ((room : ℕ) (frames : List Frame) → IsStage stage es room frames → P (reading room frames)) → (s : StackState) → IsOn s es stage None → P s
outside es stage going P holds (reading room frames) at = holds room frames at
outside es stage going P holds (done j) at = absurd (going at.2)
outside es stage going P holds failed at = absurd at

pub inside : (es : List Outcome) (stage : Stage) (value : UnderWay) → (P : StackState → Type 0) → ((room : ℕ) (frames : List Frame) → IsAround room frames es stage value → P (reading room frames)) → (s : StackState) → IsOn s es stage (Some value) → P s
inside es stage value P holds (reading room frames) at = holds room frames at
inside es stage value P holds (done j) at = absurd (let none = at.3 in let never : ⊥ = cc in never)
inside es stage value P holds failed at = absurd at

pub nothing_behind : (es : List Outcome) (t : Token) (s : StackState) → IsOn s es Stage.Ended None → NoneAfter (next_state s t)
nothing_behind es t (reading room frames) at = absurd at
nothing_behind es t (done j) at = failed_on failed refl
nothing_behind es t failed at = absurd at

-- ---- all tokens so far

-- before the first member
pub none_read : (es : List Outcome) → es ≡ [] → IsOn (state_after (start_state max_depth) (Token.begin_object ∷ [])) es Stage.Members None
unfolding state_after
none_read es none = (json.no_members, refl, refl, λ before. (before, refl, subst (λ xs. AreEntered xs before before) (sym none) refl))

pub tokens_read : (t : Token) (old new : MemberReader) → ((s : StackState) → StandsAt s old → StandsAt (next_state s t) new) → (ts : List Token) → IsReading ts old → IsReading (ts ++ t ∷ []) new
unfolding state_after
tokens_read t old new goes ts at = subst (λ s. StandsAt s new) (sym (state_after-append (start_state max_depth) ts (t ∷ []))) (goes (state_after (start_state max_depth) ts) at)

pub tokens_refused : (t : Token) (old : MemberReader) → ((s : StackState) → StandsAt s old → NoneAfter (next_state s t)) → (ts more : List Token) → IsReading ts old → data_of (ts ++ t ∷ more) ≡ None
unfolding state_after
tokens_refused t old none ts more at =
    data_read (ts ++ t ∷ more) (state_after (next_state (state_after (start_state max_depth) ts) t) more) (state_after-append (start_state max_depth) ts (t ∷ more)) ∙ none (state_after (start_state max_depth) ts) at more

ended_at : (es : List Outcome) (s : StackState) (value : Option UnderWay) → IsOn s es Stage.Ended value → (js : json.Members) × (s ≡ done (json.object js)) × AreMembersMade es js
ended_at es (reading room frames) None at = absurd at
ended_at es (reading room frames) (Some value) at = absurd at.around
ended_at es (done j) value at = (at.0, ap (λ i. done i) at.1, at.4)
ended_at es failed value at = absurd at

pub members_read : (reader : MemberReader) → object_has_ended reader.stage ≡ true → (ts : List Token) → IsReading ts reader → AreMembersRead reader.outcomes.items ts
members_read reader ended ts at =
    let s = state_after (start_state max_depth) ts in
    let es = reader.outcomes.items in
    let found = ended_at es s reader.value (subst (λ st. IsOn s es st reader.value) (is_ended reader.stage ended) at) in
    record { parts = found.0; value = machine_reads max_depth ts ∙ ap result_of found.1; put = found.2 }
  where
    is_ended : (stage : Stage) → object_has_ended stage ≡ true → stage ≡ Stage.Ended
    is_ended Stage.Ended is = refl
    is_ended stage is = let never : ⊥ = cc in absurd never

pub members_unread : (reader : MemberReader) → object_has_ended reader.stage ≡ false → (ts : List Token) → IsReading ts reader → whole_value max_depth ts ≡ None
members_unread reader going ts at = machine_reads max_depth ts ∙ go (state_after (start_state max_depth) ts) at
  where
    go : (s : StackState) → StandsAt s reader → result_of s ≡ None
    go (reading room frames) at = refl
    go (done j) at = let never : ⊥ = (let ended = ap object_has_ended at.2 in true≢false (sym ended ∙ going)) in absurd never
    go failed at = refl

pub array_end_is : (t : Token) → ends_array t ≡ true → t ≡ Token.end_array
array_end_is Token.end_array is = refl
array_end_is t is = let never : ⊥ = cc in absurd never
