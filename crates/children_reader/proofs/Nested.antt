-- A value inside what is open: its tokens are read as those of a value by itself.
use Rattle.std.proofs.Common.{◌≡◌, ℕ, zero, suc, ◌+◌, List, [], ◌∷◌, ◌++◌, length, Bool, true, false, if◌then◌else◌, Option, Some, None, option_map, option_and_then, is_some, refl, sym, ap, ◌∙◌, subst, arith}
use Rattle.std.specs.Bool.{⊤}
use Rattle.std.proofs.lemmas.Bool.{true≢false}
use Rattle.json.specs.Token.{Token}
use Rattle.json.specs.Json as json
use Rattle.json.specs.Json.{Json}
use Rattle.json_stack.specs.Machine.{items_and, members_and, Frame, in_array, in_object, in_member, StackState, reading, done, failed, awaits_value, value_ended, opened_frame, array_ended, object_ended, key_read, state_within, next_state, state_after, start_state, result_of}
use Rattle.json_stack.proofs.Runs.{failed_stays}
use Rattle.serde_json.specs.Data.{Data, array, object, no_members}
use Rattle.serde_json.specs.Read.{of_json, of_items, of_members}
use Rattle.children_reader.specs.MemberReader.{NoneAfter, is_object_frame, outermost, IsOfBracket}
use Rattle.json_spelling.proofs.Following.{after_has, result_has, value_has, none_if}

-- what is read inside other frames, with so many levels left in them
abbrev pub nested : ℕ → List Frame → StackState → StackState
nested levels outer (reading room frames) = reading room (frames ++ outer)
nested levels outer (done j) = value_ended levels outer j
nested levels outer failed = failed

-- ---- one token more

module _ (levels : ℕ) (outer : List Frame) (around : awaits_value outer ≡ true) where
  awaits_there : (inner : List Frame) → awaits_value (inner ++ outer) ≡ awaits_value inner
  awaits_there [] = around
  awaits_there (in_array js ∷ inner) = refl
  awaits_there (in_object js ∷ inner) = refl
  awaits_there (in_member js k ∷ inner) = refl

  if_there : (b : Bool) (room : ℕ) (frame : Frame) (inner : List Frame) → (if b then reading room (frame ∷ (inner ++ outer)) else failed) ≡ nested levels outer (if b then reading room (frame ∷ inner) else failed)
  if_there true room frame inner = refl
  if_there false room frame inner = refl

  opened_there : (room : ℕ) (inner : List Frame) (frame : Frame) → opened_frame room (inner ++ outer) frame ≡ nested levels outer (opened_frame room inner frame)
  opened_there zero inner frame = refl
  opened_there (suc room) inner frame = ap (λ b. if b then reading room (frame ∷ (inner ++ outer)) else failed) (awaits_there inner) ∙ if_there (awaits_value inner) room frame inner

  ended_there : (room : ℕ) (inner : List Frame) (j : Json) → length inner + room ≡ levels → value_ended room (inner ++ outer) j ≡ nested levels outer (value_ended room inner j)
  ended_there room [] j sum = let same : room ≡ levels = omega (arith, sum) in ap (λ n. value_ended n outer j) same
  ended_there room (in_array js ∷ inner) j sum = refl
  ended_there room (in_object js ∷ inner) j sum = refl
  ended_there room (in_member js k ∷ inner) j sum = refl

  array_there : (room : ℕ) (frame : Frame) (inner : List Frame) → length (frame ∷ inner) + room ≡ levels → array_ended room (frame ∷ (inner ++ outer)) ≡ nested levels outer (array_ended room (frame ∷ inner))
  array_there room (in_array js) inner sum = ended_there (suc room) inner (json.array js) (omega (arith, sum))
  array_there room (in_object js) inner sum = refl
  array_there room (in_member js k) inner sum = refl

  object_there : (room : ℕ) (frame : Frame) (inner : List Frame) → length (frame ∷ inner) + room ≡ levels → object_ended room (frame ∷ (inner ++ outer)) ≡ nested levels outer (object_ended room (frame ∷ inner))
  object_there room (in_array js) inner sum = refl
  object_there room (in_object js) inner sum = ended_there (suc room) inner (json.object js) (omega (arith, sum))
  object_there room (in_member js k) inner sum = refl

  key_there : (room : ℕ) (frame : Frame) (inner : List Frame) (k : List ℕ) → key_read room (frame ∷ (inner ++ outer)) k ≡ nested levels outer (key_read room (frame ∷ inner) k)
  key_there room (in_array js) inner k = refl
  key_there room (in_object js) inner k = refl
  key_there room (in_member js l) inner k = refl

  -- where something is open inside
  pub step_inside : (room : ℕ) (frame : Frame) (inner : List Frame) (t : Token) → length (frame ∷ inner) + room ≡ levels → state_within room (frame ∷ (inner ++ outer)) t ≡ nested levels outer (state_within room (frame ∷ inner) t)
  step_inside room frame inner Token.begin_object sum = opened_there room (frame ∷ inner) (in_object json.no_members)
  step_inside room frame inner Token.end_object sum = object_there room frame inner sum
  step_inside room frame inner Token.begin_array sum = opened_there room (frame ∷ inner) (in_array json.no_items)
  step_inside room frame inner Token.end_array sum = array_there room frame inner sum
  step_inside room frame inner (Token.key s) sum = key_there room frame inner s
  step_inside room frame inner (Token.string s) sum = ended_there room (frame ∷ inner) (json.string s) sum
  step_inside room frame inner (Token.number s) sum = ended_there room (frame ∷ inner) (json.number s) sum
  step_inside room frame inner (Token.boolean b) sum = ended_there room (frame ∷ inner) (json.boolean b) sum
  step_inside room frame inner Token.null sum = ended_there room (frame ∷ inner) json.null sum
  step_inside room frame inner Token.bad sum = refl

  no_object_end : (frames : List Frame) → awaits_value frames ≡ true → object_ended levels frames ≡ failed
  no_object_end [] is = refl
  no_object_end (in_array js ∷ frames) is = refl
  no_object_end (in_object js ∷ frames) is = absurd (true≢false (sym is))
  no_object_end (in_member js k ∷ frames) is = refl

  no_key_there : (frames : List Frame) (k : List ℕ) → awaits_value frames ≡ true → key_read levels frames k ≡ failed
  no_key_there [] k is = refl
  no_key_there (in_array js ∷ frames) k is = refl
  no_key_there (in_object js ∷ frames) k is = absurd (true≢false (sym is))
  no_key_there (in_member js l ∷ frames) k is = refl

  -- the first token of a value, or one that is none
  pub first_inside : (t : Token) → (t ≡ Token.end_array → array_ended levels outer ≡ failed) → state_within levels outer t ≡ nested levels outer (state_within levels [] t)
  first_inside Token.begin_object other = opened_there levels [] (in_object json.no_members)
  first_inside Token.end_object other = no_object_end outer around
  first_inside Token.begin_array other = opened_there levels [] (in_array json.no_items)
  first_inside Token.end_array other = other refl
  first_inside (Token.key s) other = no_key_there outer s around
  first_inside (Token.string s) other = refl
  first_inside (Token.number s) other = refl
  first_inside (Token.boolean b) other = refl
  first_inside Token.null other = refl
  first_inside Token.bad other = refl

-- ---- the kind of what is open outermost, and how much is open

-- what a token leaves of an array or object that is open
abbrev pub Kept : ℕ → Bool → StackState → Type 0
Kept levels is (reading room frames) = (length frames + room ≡ levels) × (outermost frames ≡ Some is)
Kept levels is (done j) = (d : Data) → of_json j ≡ Some d → IsOfBracket is d
Kept levels is failed = ⊤

module _ (levels : ℕ) (is : Bool) where
  swapped : (old new : Frame) (frames : List Frame) → is_object_frame old ≡ is_object_frame new → outermost (old ∷ frames) ≡ Some is → outermost (new ∷ frames) ≡ Some is
  swapped old new [] same kind = ap (λ b. Some b) (sym same) ∙ kind
  swapped old new (frame ∷ frames) same kind = kind

  opened_kept : (room : ℕ) (frame next : Frame) (frames : List Frame) → length (frame ∷ frames) + room ≡ levels → outermost (frame ∷ frames) ≡ Some is → Kept levels is (opened_frame room (frame ∷ frames) next)
  opened_kept zero frame next frames sum kind = tt
  opened_kept (suc room) frame next frames sum kind = go (awaits_value (frame ∷ frames))
    where
      go : (b : Bool) → Kept levels is (if b then reading room (next ∷ frame ∷ frames) else failed)
      go true = (omega (arith, sum), kind)
      go false = tt

  -- a value that is no more than an item or a member's value
  item_kept : (room : ℕ) (frame : Frame) (frames : List Frame) (j : Json) → length (frame ∷ frames) + room ≡ levels → outermost (frame ∷ frames) ≡ Some is → Kept levels is (value_ended room (frame ∷ frames) j)
  item_kept room (in_array js) frames j sum kind = (omega (arith, sum), swapped (in_array js) (in_array (items_and js j)) frames refl kind)
  item_kept room (in_object js) frames j sum kind = tt
  item_kept room (in_member js k) frames j sum kind = (omega (arith, sum), swapped (in_member js k) (in_object (members_and js k j)) frames refl kind)

  array_kind : (js : json.Items) (d : Data) → of_json (json.array js) ≡ Some d → IsOfBracket false d
  array_kind js d made = go (of_items js) made
    where
      go : (o : Option _) → option_map array o ≡ Some d → IsOfBracket false d
      go None made = absurd cc
      go (Some ds) made = (ds, (let same : d ≡ array ds = cc in same))

  object_kind : (js : json.Members) (d : Data) → of_json (json.object js) ≡ Some d → IsOfBracket true d
  object_kind js d made = go (of_members js no_members) made
    where
      go : (o : Option _) → option_map object o ≡ Some d → IsOfBracket true d
      go None made = absurd cc
      go (Some ms) made = (ms, (let same : d ≡ object ms = cc in same))

  bool_is : (b : Bool) → Some b ≡ Some is → b ≡ is
  bool_is b same = cc

  array_kept : (room : ℕ) (frame : Frame) (frames : List Frame) → length (frame ∷ frames) + room ≡ levels → outermost (frame ∷ frames) ≡ Some is → Kept levels is (array_ended room (frame ∷ frames))
  array_kept room (in_array js) [] sum kind = λ d made. subst (λ b. IsOfBracket b d) (bool_is false kind) (array_kind js d made)
  array_kept room (in_array js) (frame ∷ frames) sum kind = item_kept (suc room) frame frames (json.array js) (omega (arith, sum)) kind
  array_kept room (in_object js) frames sum kind = tt
  array_kept room (in_member js k) frames sum kind = tt

  object_kept : (room : ℕ) (frame : Frame) (frames : List Frame) → length (frame ∷ frames) + room ≡ levels → outermost (frame ∷ frames) ≡ Some is → Kept levels is (object_ended room (frame ∷ frames))
  object_kept room (in_array js) frames sum kind = tt
  object_kept room (in_object js) [] sum kind = λ d made. subst (λ b. IsOfBracket b d) (bool_is true kind) (object_kind js d made)
  object_kept room (in_object js) (frame ∷ frames) sum kind = item_kept (suc room) frame frames (json.object js) (omega (arith, sum)) kind
  object_kept room (in_member js k) frames sum kind = tt

  key_kept : (room : ℕ) (frame : Frame) (frames : List Frame) (k : List ℕ) → length (frame ∷ frames) + room ≡ levels → outermost (frame ∷ frames) ≡ Some is → Kept levels is (key_read room (frame ∷ frames) k)
  key_kept room (in_array js) frames k sum kind = tt
  key_kept room (in_object js) frames k sum kind = (omega (arith, sum), swapped (in_object js) (in_member js k) frames refl kind)
  key_kept room (in_member js l) frames k sum kind = tt

  pub step_kept : (room : ℕ) (frame : Frame) (frames : List Frame) (t : Token) → length (frame ∷ frames) + room ≡ levels → outermost (frame ∷ frames) ≡ Some is → Kept levels is (state_within room (frame ∷ frames) t)
  step_kept room frame frames Token.begin_object sum kind = opened_kept room frame (in_object json.no_members) frames sum kind
  step_kept room frame frames Token.end_object sum kind = object_kept room frame frames sum kind
  step_kept room frame frames Token.begin_array sum kind = opened_kept room frame (in_array json.no_items) frames sum kind
  step_kept room frame frames Token.end_array sum kind = array_kept room frame frames sum kind
  step_kept room frame frames (Token.key s) sum kind = key_kept room frame frames s sum kind
  step_kept room frame frames (Token.string s) sum kind = item_kept room frame frames (json.string s) sum kind
  step_kept room frame frames (Token.number s) sum kind = item_kept room frame frames (json.number s) sum kind
  step_kept room frame frames (Token.boolean b) sum kind = item_kept room frame frames (json.boolean b) sum kind
  step_kept room frame frames Token.null sum kind = item_kept room frame frames json.null sum kind
  step_kept room frame frames Token.bad sum kind = tt

-- ---- no value goes on so

pub failed_on : (s : StackState) → s ≡ failed → NoneAfter s
failed_on s is more = ap (λ r. option_and_then of_json (result_of (state_after r more))) is ∙ ap (λ r. option_and_then of_json (result_of r)) (failed_stays more)

-- something is open, or the value has ended, or it has failed
abbrev pub IsEntered : ℕ → StackState → Type 0
IsEntered levels (reading room []) = ⊥
IsEntered levels (reading room (frame ∷ frames)) = length (frame ∷ frames) + room ≡ levels
IsEntered levels (done j) = ⊤
IsEntered levels failed = ⊤

some_outermost : (frame : Frame) (frames : List Frame) → (is : Bool) × (outermost (frame ∷ frames) ≡ Some is)
some_outermost frame [] = (is_object_frame frame, refl)
some_outermost frame (next ∷ frames) = some_outermost next frames

entered : (levels : ℕ) (is : Bool) (s : StackState) → Kept levels is s → IsEntered levels s
entered levels is (reading room []) kept = absurd (let never : ⊥ = (let none = kept.1 in cc) in never)
entered levels is (reading room (frame ∷ frames)) kept = kept.0
entered levels is (done j) kept = tt
entered levels is failed kept = tt

still_entered : (levels room : ℕ) (frame : Frame) (frames : List Frame) (t : Token) → length (frame ∷ frames) + room ≡ levels → IsEntered levels (state_within room (frame ∷ frames) t)
still_entered levels room frame frames t sum =
    let kind = some_outermost frame frames in
    entered levels kind.0 (state_within room (frame ∷ frames) t) (step_kept levels kind.0 room frame frames t sum kind.1)

opened_entered : (levels : ℕ) (frame : Frame) → IsEntered levels (opened_frame levels [] frame)
opened_entered zero frame = tt
opened_entered (suc room) frame = omega arith

pub first_entered : (levels : ℕ) (t : Token) → IsEntered levels (next_state (start_state levels) t)
first_entered levels Token.begin_object = opened_entered levels (in_object json.no_members)
first_entered levels Token.end_object = tt
first_entered levels Token.begin_array = opened_entered levels (in_array json.no_items)
first_entered levels Token.end_array = tt
first_entered levels (Token.key s) = tt
first_entered levels (Token.string s) = tt
first_entered levels (Token.number s) = tt
first_entered levels (Token.boolean b) = tt
first_entered levels Token.null = tt
first_entered levels Token.bad = tt

-- where nothing is made of the value inside, nothing is made of the whole
module _ (levels : ℕ) (outer : List Frame) (around : awaits_value outer ≡ true) where
  none_made : (j : Json) → of_json j ≡ None → NoneAfter (value_ended levels outer j)
  none_made j none more =
      none_if (option_and_then of_json (result_of (state_after (value_ended levels outer j) more)))
      (λ some. true≢false
      (sym (value_has levels outer j (after_has (value_ended levels outer j) more (result_has (state_after (value_ended levels outer j) more) some))).1 ∙ ap is_some none))

  none_there : (more : List Token) (s : StackState) → IsEntered levels s → NoneAfter s → option_and_then of_json (result_of (state_after (nested levels outer s) more)) ≡ None
  unfolding state_after
  none_there more failed shape none = failed_on failed refl more
  none_there more (done j) shape none = none_made j (none []) more
  none_there more (reading room []) shape none = absurd shape
  none_there [] (reading room (frame ∷ inner)) shape none = refl
  none_there (t ∷ more) (reading room (frame ∷ inner)) shape none =
      ap (λ s. option_and_then of_json (result_of (state_after s more))) (step_inside levels outer around room frame inner t shape)
      ∙ none_there more (state_within room (frame ∷ inner) t) (still_entered levels room frame inner t shape) (λ rest. none (t ∷ rest))

  pub none_inside : (s : StackState) → IsEntered levels s → NoneAfter s → NoneAfter (nested levels outer s)
  none_inside s shape none more = none_there more s shape none

  -- after one token more
  pub refused_inside : (room : ℕ) (frame : Frame) (inner : List Frame) (t : Token) → length (frame ∷ inner) + room ≡ levels → NoneAfter (state_within room (frame ∷ inner) t) → NoneAfter (state_within room (frame ∷ (inner ++ outer)) t)
  refused_inside room frame inner t sum none =
      subst NoneAfter (sym (step_inside levels outer around room frame inner t sum)) (none_inside (state_within room (frame ∷ inner) t) (still_entered levels room frame inner t sum) none)

  pub refused_first : (t : Token) → (t ≡ Token.end_array → array_ended levels outer ≡ failed) → NoneAfter (state_within levels [] t) → NoneAfter (state_within levels outer t)
  refused_first t other none = subst NoneAfter (sym (first_inside levels outer around t other)) (none_inside (state_within levels [] t) (first_entered levels t) none)
