-- Members of an object, put in one after another in the order of their keys, and what is taken of them.
use Rattle.std.proofs.Common.{◌≡◌, ℕ, ◌-◌, List, [], ◌∷◌, ◌++◌, ◌<◌, ◌≤◌, length, ◌&&◌, Bool, true, false, cond, Option, Some, None, is_some, option_and_then, option_map, bytes_eq, BTreeMap, String, Global, string_bytes, string_cmp, Ordering, Less, Equal, Greater, nat_cmp, refl, sym, ap, ◌∙◌, subst, arith}
use Rattle.std.proofs.lemmas.Cmp.{nat_list_cmp_total, tied_itself}
use Rattle.std.proofs.lemmas.Map.Text.{btree_map_updates_text}
use Rattle.std.specs.BTreeMap.{get_by_text, UpdatesBy}
use Rattle.std.specs.Cmp.Lexicographic.{slice_cmp}
use Rattle.std.specs.FinMap.{nat_cmp-IsAntisymmetric, slice_cmp-IsAntisymmetric}
use Rattle.std.specs.Ordering.{match_ordering, ordering_reverse}
use Rattle.std.specs.Prelude.{⊤}
use Rattle.json.proofs.Grammar.{value-begin_object}
use Rattle.json.specs.Json as json
use Rattle.json.specs.Json.{value, members, parse_map, if_last}
use Rattle.json.specs.Token.{Token}
use Rattle.json_members.specs.MemberCuts.{first_token}
use Rattle.json_stack.proofs.Reading.{machine_reads}
use Rattle.json_stack.specs.Machine.{done, result_of, state_after, start_state, whole_value}
use Rattle.serde_json.proofs.Views.{view-lookup}
use Rattle.serde_json.specs.Data.{Data, null, boolean, number, string, array, object, Items, no_items, item, Members, no_members, member, put}
use Rattle.serde_json.specs.Find.{get_member, as_str, as_object}
use Rattle.serde_json.specs.Read.{of_json, of_members, max_depth}
use Rattle.serde_json.specs.View.{view, items_view, members_view}
use Rattle.serde_json.specs.declared.value.Value.{Value}
use Rattle.children_reader.proofs.PutMembers.{put_next}
use Rattle.json_spelling.proofs.SoundLemmas.{below_trans, put_sound, made_sound, members_made_sound}
use Rattle.children_reader.specs.Children.{fields_of}
use Rattle.children_reader.specs.Collected.{AreMembersRead}
use Rattle.children_reader.specs.Kept.{MemberOutcome, Outcome, IsOutcome}
use Rattle.json_spelling.specs.Sound.{IsBelowAll, IsSound, ItemsAreSound, MembersAreSound}
use Rattle.children_reader.specs.Taking.{with_all, AreTakenBefore, IsTakenChild, AreYetToTake, IsTakenFrom}
use Rattle.children_reader.specs.declared.taking.TakenChild.{TakenChild}
use Rattle.children_reader.specs.declared.taking.Taking.{Taking}

-- ---- members that are put in

put_at : (o : Ordering) (k l : List ℕ) (d e : Data) (ms : Members) → slice_cmp nat_cmp k l ≡ o → put k d (member l e ms) ≡ match_ordering o (member k d (member l e ms)) (member l d ms) (member l e (put k d ms))
put_at o k l d e ms is = ap (λ r. match_ordering r (member k d (member l e ms)) (member l d ms) (member l e (put k d ms))) is

-- the later of two at one key counts
put_put_at : (o : Ordering) (k m : List ℕ) (d e f : Data) (ms : Members) → slice_cmp nat_cmp k m ≡ o → put k d (put k e ms) ≡ put k d ms → put k d (put k e (member m f ms)) ≡ put k d (member m f ms)
put_put_at Less k m d e f ms is rest = ap (put k d) (put_at Less k m e f ms is) ∙ put_at Equal k k d e (member m f ms) (tied_itself nat_list_cmp_total k) ∙ sym (put_at Less k m d f ms is)
put_put_at Equal k m d e f ms is rest = ap (put k d) (put_at Equal k m e f ms is) ∙ put_at Equal k m d e ms is ∙ sym (put_at Equal k m d f ms is)
put_put_at Greater k m d e f ms is rest = ap (put k d) (put_at Greater k m e f ms is) ∙ put_at Greater k m d f (put k e ms) is ∙ ap (member m f) rest ∙ sym (put_at Greater k m d f ms is)

put_put : (k : List ℕ) (d e : Data) (ms : Members) → put k d (put k e ms) ≡ put k d ms
put_put k d e no_members = put_at Equal k k d e no_members (tied_itself nat_list_cmp_total k)
put_put k d e (member m f ms) = put_put_at (slice_cmp nat_cmp k m) k m d e f ms refl (put_put k d e ms)

-- two at different keys are put in in either order
module _ (k l m : List ℕ) (d e f : Data) (ms : Members) (less : slice_cmp nat_cmp k l ≡ Less) where
  above : slice_cmp nat_cmp l k ≡ Greater
  above = nat_list_cmp_total.antisymm l k ∙ ap ordering_reverse less

  swap_first : (o : Ordering) (next : Members) → slice_cmp nat_cmp k m ≡ Less → put l e (member m f ms) ≡ next → put l e (put k d (member m f ms)) ≡ member k d next
  swap_first o next is same = ap (put l e) (put_at Less k m d f ms is) ∙ put_at Greater l k e d (member m f ms) above ∙ ap (member k d) same

  swap_last : (o : Ordering) → slice_cmp nat_cmp k m ≡ o → slice_cmp nat_cmp l m ≡ Greater → put k d (put l e ms) ≡ put l e (put k d ms) → put k d (put l e (member m f ms)) ≡ put l e (put k d (member m f ms))
  swap_last Less is behind rest =
      let next = put_at Greater l m e f ms behind in
      ap (put k d) next ∙ put_at Less k m d f (put l e ms) is ∙ sym (swap_first Less (member m f (put l e ms)) is next)
  swap_last Equal is behind rest =
      ap (put k d) (put_at Greater l m e f ms behind) ∙ put_at Equal k m d f (put l e ms) is ∙ sym (ap (put l e) (put_at Equal k m d f ms is) ∙ put_at Greater l m e d ms behind)
  swap_last Greater is behind rest =
      ap (put k d) (put_at Greater l m e f ms behind) ∙ put_at Greater k m d f (put l e ms) is ∙ ap (member m f) rest
      ∙ sym (ap (put l e) (put_at Greater k m d f ms is) ∙ put_at Greater l m e f (put k d ms) behind)

  swap_at : (o : Ordering) → slice_cmp nat_cmp l m ≡ o → put k d (put l e ms) ≡ put l e (put k d ms) → put k d (put l e (member m f ms)) ≡ put l e (put k d (member m f ms))
  swap_at Less is rest =
      let next = put_at Less l m e f ms is in
      ap (put k d) next ∙ put_at Less k l d e (member m f ms) less ∙ sym (swap_first Less (member l e (member m f ms)) (nat_list_cmp_total.trans k l m less is) next)
  swap_at Equal is rest =
      let next = put_at Equal l m e f ms is in
      let first = subst (λ x. slice_cmp nat_cmp k x ≡ Less) (slice_cmp-IsAntisymmetric nat_cmp-IsAntisymmetric l m is) less in
      ap (put k d) next ∙ put_at Less k m d e ms first ∙ sym (swap_first Equal (member m e ms) first next)
  swap_at Greater is rest = swap_last (slice_cmp nat_cmp k m) refl is rest

put_swap : (k l : List ℕ) (d e : Data) (ms : Members) → slice_cmp nat_cmp k l ≡ Less → put k d (put l e ms) ≡ put l e (put k d ms)
put_swap k l d e no_members less = put_at Less k l d e no_members less ∙ sym (put_at Greater l k e d no_members (nat_list_cmp_total.antisymm l k ∙ ap ordering_reverse less))
put_swap k l d e (member m f ms) less = swap_at k l m d e f ms less (slice_cmp nat_cmp l m) refl (put_swap k l d e ms less)

-- one more, below the others
put_over : (k : List ℕ) (d : Data) (ms before : Members) → IsBelowAll k ms → put k d (with_all ms before) ≡ with_all ms (put k d before)
put_over k d no_members before below = refl
put_over k d (member l e ms) before below = put_over k d ms (put l e before) below.1 ∙ ap (with_all ms) (put_swap k l d e before below.0)

with_put_at : (o : Ordering) (k l : List ℕ) (d e : Data) (ms before : Members) → slice_cmp nat_cmp k l ≡ o → MembersAreSound (member l e ms) → with_all (put k d ms) (put l e before) ≡ put k d (with_all ms (put l e before))
    → with_all (put k d (member l e ms)) before ≡ put k d (with_all (member l e ms) before)
with_put_at Less k l d e ms before is all rest = ap (λ x. with_all x before) (put_at Less k l d e ms is) ∙ sym (put_over k d (member l e ms) before (is, below_trans k l ms is all.1))
with_put_at Equal k l d e ms before is all rest =
    let same = slice_cmp-IsAntisymmetric nat_cmp-IsAntisymmetric k l is in
    ap (λ x. with_all x before) (put_at Equal k l d e ms is) ∙ ap (with_all ms) (sym (put_put l d e before) ∙ ap (λ x. put x d (put l e before)) (sym same))
    ∙ sym (put_over k d ms (put l e before) (subst (λ x. IsBelowAll x ms) (sym same) all.1))
with_put_at Greater k l d e ms before is all rest = ap (λ x. with_all x before) (put_at Greater k l d e ms is) ∙ rest

with_put : (k : List ℕ) (d : Data) (ms before : Members) → MembersAreSound ms → with_all (put k d ms) before ≡ put k d (with_all ms before)
with_put k d no_members before all = refl
with_put k d (member l e ms) before all = with_put_at (slice_cmp nat_cmp k l) k l d e ms before refl all (with_put k d ms (put l e before) all.2)

-- members put in among others are those that are made of them alone, put in
made_with : (js : json.Members) (found ms before : Members) → MembersAreSound found → of_members js found ≡ Some ms → of_members js (with_all found before) ≡ Some (with_all ms before)
made_with json.no_members found ms before all is = ap (option_map (λ x. with_all x before)) is
made_with (json.member k j js) found ms before all is = go (of_json j) (λ d made. made_with js (put k d found) ms before (put_sound k d found (made_sound j d made) all)) refl is
  where
    go : (o : Option Data) → ((d : Data) → of_json j ≡ Some d → of_members js (put k d found) ≡ Some ms → of_members js (with_all (put k d found) before) ≡ Some (with_all ms before)) → of_json j ≡ o
        → option_and_then (λ d. of_members js (put k d found)) o ≡ Some ms → option_and_then (λ d. of_members js (put k d (with_all found before))) o ≡ Some (with_all ms before)
    go None rest made is = let never : ⊥ = cc in absurd never
    go (Some d) rest made is = subst (λ x. of_members js x ≡ Some (with_all ms before)) (with_put k d found before all) (rest d made is)

pub all_made : (js : json.Members) (ms before : Members) → of_members js no_members ≡ Some ms → of_members js before ≡ Some (with_all ms before)
all_made js ms before is = made_with js no_members ms before tt is

-- ---- what begins with a brace

object_of : (o : Option (json.Members × List Token)) (j : json.Json) → option_and_then (λ p. if_last p.0 p.1) (parse_map json.object o) ≡ Some j → (js : json.Members) × (j ≡ json.object js)
object_of None j is = let never : ⊥ = cc in absurd never
object_of (Some p) j is = last p.1 is
  where
    last : (left : List Token) → if_last (json.object p.0) left ≡ Some j → (js : json.Members) × (j ≡ json.object js)
    last [] is = (p.0, let same : j ≡ json.object p.0 = cc in same)
    last (t ∷ ts) is = let never : ⊥ = cc in absurd never

whole_is : (ts : List Token) (j : json.Json) → first_token ts ≡ Some Token.begin_object → whole_value max_depth ts ≡ Some j → (js : json.Members) × (j ≡ json.object js)
whole_is [] j first is = let never : ⊥ = cc in absurd never
whole_is (t ∷ rest) j first is =
    let same : t ≡ Token.begin_object = cc in
    let there = sym (ap (option_and_then (λ p. if_last p.0 p.1)) (value-begin_object 127 rest (omega arith))) ∙ ap (λ x. whole_value max_depth (x ∷ rest)) (sym same) ∙ is in
    object_of (members (value (127 - 1)) (length rest) rest) j there

made_of_object : (o : Option Members) (d : Data) → option_map object o ≡ Some d → (ms : Members) × (o ≡ Some ms) × (d ≡ object ms)
made_of_object None d is = let never : ⊥ = cc in absurd never
made_of_object (Some ms) d is = (ms, refl, let same : d ≡ object ms = cc in same)

-- the machine came to a value, which is an object
pub record IsObjectRead (ts : List Token) (d : Data) : Type 0 where
  pub parts : json.Members
  pub made : Members
  pub value : whole_value max_depth ts ≡ Some (json.object parts)
  pub of : of_members parts no_members ≡ Some made
  pub is : d ≡ object made

pub object_ended : (ts : List Token) (j : json.Json) (d : Data) → first_token ts ≡ Some Token.begin_object → state_after (start_state max_depth) ts ≡ done j → of_json j ≡ Some d → IsObjectRead ts d
object_ended ts j d first stands made =
    let whole : whole_value max_depth ts ≡ Some j = machine_reads max_depth ts ∙ ap result_of stands in
    let found = whole_is ts j first whole in
    let whole_data = made_of_object (of_members found.0 no_members) d (sym (ap of_json found.1) ∙ made) in
    record { parts = found.0; made = whole_data.0; value = whole ∙ ap (λ x. Some x) found.1; of = whole_data.1; is = whole_data.2 }

-- and nothing was taken of it
pub none_taken : (ts : List Token) (found : List Outcome) (ms : Members) → IsObjectRead ts (object ms) → found ≡ [] → AreTakenBefore ts found ms
none_taken ts found ms read none =
    let same : read.made ≡ ms = let both = read.is in cc in
    let of = subst (λ x. of_members read.parts no_members ≡ Some x) same read.of in
    subst (λ es. AreTakenBefore ts es ms) (sym none) (record {
      parts = read.parts;
      value = read.value;
      sound = members_made_sound read.parts ms of;
      entered = λ before. (before, refl, all_made read.parts ms before of);
    })

-- ---- one member more

pub one_taken : (ts : List Token) (es next : List Outcome) (key : String Global) (o : MemberOutcome) (d : Data) (rest : Members) → next ≡ es ++ ((key, o) ∷ []) → IsOutcome (string_bytes key) d o
    → AreTakenBefore ts es (member (string_bytes key) d rest) → AreTakenBefore ts next rest
one_taken ts es next key o d rest pushed is before = record {
  parts = before.parts;
  value = before.value;
  sound = before.sound.2;
  entered = λ others.
      let at = before.entered others in
      (put (string_bytes key) d at.0, put_next es next others at.0 key (string_bytes key) o d pushed refl is at.1, at.2);
}

pub all_taken : (ts : List Token) (es : List Outcome) → AreTakenBefore ts es no_members → AreMembersRead es ts
all_taken ts es taken = record {
  parts = taken.parts;
  value = taken.value;
  put = λ before. (let at = taken.entered before in (at.0, at.2, at.1));
}

-- no child is under way, and these members are left
pub none_left : (ts : List Token) (taking : Taking) (ms : Members) → taking.child ≡ None → members_view taking.left.entries ≡ ms → AreTakenBefore ts taking.found.items ms → IsTakenFrom ts taking
none_left ts taking ms none same before =
    let left = members_view taking.left.entries in
    (ms, before, subst (λ o. AreYetToTake o left ms) (sym none) (sym same))

pub left_none : (ts : List Token) (taking : Taking) → taking.child ≡ None → IsTakenFrom ts taking → AreTakenBefore ts taking.found.items (members_view taking.left.entries)
left_none ts taking none from =
    let left = members_view taking.left.entries in
    subst (AreTakenBefore ts taking.found.items) (subst (λ o. AreYetToTake o left from.0) none from.2) from.1

-- one is, and these are left behind it
pub child_left : (ts : List Token) (taking : Taking) (child : TakenChild) (d : Data) → taking.child ≡ Some child → IsTakenChild child d → AreTakenBefore ts taking.found.items (member (string_bytes child.key) d (members_view taking.left.entries))
    → IsTakenFrom ts taking
child_left ts taking child d some is before =
    let ms = members_view taking.left.entries in
    let rest = member (string_bytes child.key) d ms in
    (rest, before, subst (λ o. AreYetToTake o ms rest) (sym some) (d, is, refl))

pub left_child : (ts : List Token) (taking : Taking) (child : TakenChild) → taking.child ≡ Some child → IsTakenFrom ts taking
    → (d : Data) × IsTakenChild child d × AreTakenBefore ts taking.found.items (member (string_bytes child.key) d (members_view taking.left.entries))
left_child ts taking child some from =
    let ms = members_view taking.left.entries in
    let left = subst (λ o. AreYetToTake o ms from.0) some from.2 in
    (left.0, left.1, subst (AreTakenBefore ts taking.found.items) left.2 from.1)

-- ---- a list of just a text and an object

no_single : (d : Data) → fields_of (array (item d no_items)) ≡ None
no_single null = refl
no_single (boolean b) = refl
no_single (number n) = refl
no_single (string s) = refl
no_single (array ds) = refl
no_single (object ms) = refl

pub pair_fields : (a b : Data) → fields_of (array (item a (item b no_items))) ≡ cond (is_some (as_str a) && is_some (as_object b)) (Some b) None
pair_fields null b = refl
pair_fields (boolean x) b = refl
pair_fields (number n) b = refl
pair_fields (string s) null = refl
pair_fields (string s) (boolean b) = refl
pair_fields (string s) (number n) = refl
pair_fields (string s) (string t) = refl
pair_fields (string s) (array ds) = refl
pair_fields (string s) (object ms) = refl
pair_fields (array ds) b = refl
pair_fields (object ms) b = refl

pub no_more_than_two : (a b c : Data) (ds : Items) → fields_of (array (item a (item b (item c ds)))) ≡ None
no_more_than_two null b c ds = refl
no_more_than_two (boolean x) b c ds = refl
no_more_than_two (number n) b c ds = refl
no_more_than_two (string s) null c ds = refl
no_more_than_two (string s) (boolean b) c ds = refl
no_more_than_two (string s) (number n) c ds = refl
no_more_than_two (string s) (string t) c ds = refl
no_more_than_two (string s) (array es) c ds = refl
no_more_than_two (string s) (object ms) c ds = refl
no_more_than_two (array es) b c ds = refl
no_more_than_two (object ms) b c ds = refl

pair_at : (x y : Bool) (b : Data) → is_some (cond (x && y) (Some b) None) ≡ true → (cond (x && y) (Some b) None ≡ Some b) × (y ≡ true)
pair_at true true b is = (refl, refl)
pair_at true false b is = let never : ⊥ = cc in absurd never
pair_at false y b is = let never : ⊥ = cc in absurd never

-- its last item is that object
pub pair_last : (rest : List Value) (last : Value) → is_some (fields_of (array (items_view (rest ++ last ∷ [])))) ≡ true → (fields_of (array (items_view (rest ++ last ∷ []))) ≡ Some (view last)) × (is_some (as_object (view last)) ≡ true)
pair_last [] last is = let never : ⊥ = (let none = ap is_some (no_single (view last)) in cc) in absurd never
pair_last (first ∷ []) last is =
    let same = pair_fields (view first) (view last) in
    let at = pair_at (is_some (as_str (view first))) (is_some (as_object (view last))) (view last) (sym (ap is_some same) ∙ is) in
    (same ∙ at.0, at.1)
pair_last (first ∷ next ∷ []) last is = let never : ⊥ = (let none = ap is_some (no_more_than_two (view first) (view next) (view last) no_items) in cc) in absurd never
pair_last (first ∷ next ∷ third ∷ more) last is = let never : ⊥ = (let none = ap is_some (no_more_than_two (view first) (view next) (view third) (items_view (more ++ last ∷ []))) in cc) in absurd never

-- a list of fewer, or of more
pub few_items : (items : List Value) → length items < 2 → false ≡ is_some (fields_of (array (items_view items)))
few_items [] few = refl
few_items (first ∷ []) few = sym (ap is_some (no_single (view first)))
few_items (first ∷ next ∷ more) few = absurd (omega arith)

pub many_items : (items : List Value) → 3 ≤ length items → false ≡ is_some (fields_of (array (items_view items)))
many_items [] many = absurd (omega arith)
many_items (first ∷ []) many = absurd (omega arith)
many_items (first ∷ next ∷ []) many = absurd (omega arith)
many_items (first ∷ next ∷ third ∷ more) many = sym (ap is_some (no_more_than_two (view first) (view next) (view third) (items_view more)))

-- a list that is none
pub no_pair : (items : List Value) → is_some (fields_of (array (items_view items))) ≡ false → fields_of (array (items_view items)) ≡ None
no_pair items is = go (fields_of (array (items_view items))) is
  where
    go : (o : Option Data) → is_some o ≡ false → o ≡ None
    go None none = refl
    go (Some d) none = let never : ⊥ = cc in absurd never

-- ---- a value that leaves members

pub member_found : (name : List ℕ) (members : BTreeMap (String Global) Value) (o : Option Value) → o ≡ get_by_text members name → option_map view o ≡ get_member name (members_view members.entries)
member_found name members o is = ap (option_map view) is ∙ view-lookup name members.entries

pub others_stay : (name other : List ℕ) (old new : BTreeMap (String Global) Value) → UpdatesBy string_cmp (λ k. slice_cmp nat_cmp name (string_bytes k)) old new None → bytes_eq name other ≡ false
    → get_member other (members_view new.entries) ≡ get_member other (members_view old.entries)
others_stay name other old new updates apart =
    sym (view-lookup other new.entries) ∙ ap (option_map view) (btree_map_updates_text name old new None updates other ∙ ap (λ b. cond b None (get_by_text old other)) apart) ∙ view-lookup other old.entries

-- ---- what is sound

-- the value, where there is one, is sound
abbrev IsSoundAt : Option Data → Type 0
IsSoundAt None = ⊤
IsSoundAt (Some d) = IsSound d

pair_sound : (x y : Bool) (b : Data) → IsSound b → IsSoundAt (cond (x && y) (Some b) None)
pair_sound true true b all = all
pair_sound true false b all = tt
pair_sound false y b all = tt

items_sound : (ds : Items) → ItemsAreSound ds → IsSoundAt (fields_of (array ds))
items_sound no_items all = tt
items_sound (item a no_items) all = subst IsSoundAt (sym (no_single a)) tt
items_sound (item a (item b no_items)) all = subst IsSoundAt (sym (pair_fields a b)) (pair_sound (is_some (as_str a)) (is_some (as_object b)) b all.1.0)
items_sound (item a (item b (item c ds))) all = subst IsSoundAt (sym (no_more_than_two a b c ds)) tt

node_sound : (d : Data) → IsSound d → IsSoundAt (fields_of d)
node_sound null all = tt
node_sound (boolean b) all = tt
node_sound (number n) all = tt
node_sound (string s) all = tt
node_sound (array ds) all = items_sound ds all
node_sound (object ms) all = tt

found_sound_at : (o : Ordering) (d : Data) (rest : Option Data) → IsSound d → IsSoundAt rest → IsSoundAt (match_ordering o rest (Some d) rest)
found_sound_at Less d rest is more = more
found_sound_at Equal d rest is more = is
found_sound_at Greater d rest is more = more

found_sound : (name : List ℕ) (ms : Members) → MembersAreSound ms → IsSoundAt (get_member name ms)
found_sound name no_members all = tt
found_sound name (member k d ms) all = found_sound_at (slice_cmp nat_cmp name k) d (get_member name ms) all.0 (found_sound name ms all.2)

-- a field of a child
pub field_sound : (d : Data) (fields : Members) (name : List ℕ) (found : Data) → IsSound d → fields_of d ≡ Some (object fields) → get_member name fields ≡ Some found → IsSound found
field_sound d fields name found all node is = subst IsSoundAt is (found_sound name fields (subst IsSoundAt node (node_sound d all)))
