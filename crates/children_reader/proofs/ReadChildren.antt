-- Children JSON, read token by token.
use Rattle.std.proofs.Common.{◌≡◌, ℕ, zero, suc, ◌-◌, ◌<◌, ◌≤◌, List, [], ◌∷◌, length, Bool, true, false, Option, Some, None, is_some, option_map, refl, sym, ap, ◌∙◌, arith}
use Rattle.json.specs.Token.{Token}
use Rattle.json.specs.Json as json
use Rattle.json.specs.Json.{Parse, after_end_array, items, members, value, value_with, parse_map, items_step}
use Rattle.json.proofs.Grammar.{Takes, left, skip_value-shorter, value_is, items_fail}
use Rattle.serde_json.specs.Data.{Data, null, boolean, number, string, array, object, Items, no_items, item, Members, no_members}
use Rattle.serde_json.specs.Find.{as_str, as_object}
use Rattle.serde_json.specs.Read.{number_of, of_json, of_items, of_members, converted}
use Rattle.children_reader.specs.Children.{fields_of}
use Rattle.json_spelling.specs.Spelled.{data_of, begins_text, begins_object, begins_array}
use Rattle.children_reader.specs.Kept.{IsField, IsObject, IsChildNode}
use Rattle.children_reader.specs.declared.fields.Field.{Field}
use Rattle.children_reader.specs.declared.fields.Fields.{Fields}
use Rattle.json_spelling.proofs.ReadData.{from_json, no_turn, next_item, no_item, last_item, object_opened, read_whole, read_more, read_none}

-- ---- a value's kind is that of its first token

abbrev is_kind : Token → Data → Bool
is_kind Token.null null = true
is_kind (Token.boolean b) (boolean c) = true
is_kind (Token.number s) (number n) = true
is_kind (Token.string s) (string t) = true
is_kind Token.begin_array (array ds) = true
is_kind Token.begin_object (object ms) = true
is_kind _ _ = false

mapped : {A B : Type 0} (f : A → B) (o : Option (A × List Token)) (p : B × List Token) → parse_map f o ≡ Some p → (a : A) × (p.0 ≡ f a)
mapped f None p is = absurd cc
mapped f (Some q) p is = (q.0, (let same : p.0 ≡ f q.0 = cc in same))

made : {A B : Type 0} (f : A → B) (o : Option A) (b : B) → option_map f o ≡ Some b → (a : A) × (b ≡ f a)
made f None b is = absurd cc
made f (Some a) b is = (a, (let same : b ≡ f a = cc in same))

kind_of_json : (a : Parse json.Items) (o : Parse json.Members) (t : Token) (ts : List Token) (p : json.Json × List Token) → value_with a o (t ∷ ts) ≡ Some p → (d : Data) → of_json p.0 ≡ Some d → is_kind t d ≡ true
kind_of_json a o Token.begin_object ts p is d read =
    let j = mapped json.object (o ts) p is in
    let m = made object (of_members j.0 no_members) d (sym (ap of_json j.1) ∙ read) in
    ap (is_kind Token.begin_object) m.1
kind_of_json a o Token.end_object ts p is d read = absurd cc
kind_of_json a o Token.begin_array ts p is d read =
    let j = mapped json.array (a ts) p is in
    let m = made array (of_items j.0) d (sym (ap of_json j.1) ∙ read) in
    ap (is_kind Token.begin_array) m.1
kind_of_json a o Token.end_array ts p is d read = absurd cc
kind_of_json a o (Token.key s) ts p is d read = absurd cc
kind_of_json a o (Token.string s) ts p is d read =
    let j : p.0 ≡ json.string s = cc in
    let both : Some (string s) ≡ Some d = sym (ap of_json j) ∙ read in
    let same : d ≡ string s = cc in
    ap (is_kind (Token.string s)) same
kind_of_json a o (Token.number s) ts p is d read =
    let j : p.0 ≡ json.number s = cc in
    let m = made number (number_of s) d (sym (ap of_json j) ∙ read) in
    ap (is_kind (Token.number s)) m.1
kind_of_json a o (Token.boolean b) ts p is d read =
    let j : p.0 ≡ json.boolean b = cc in
    let both : Some (boolean b) ≡ Some d = sym (ap of_json j) ∙ read in
    let same : d ≡ boolean b = cc in
    ap (is_kind (Token.boolean b)) same
kind_of_json a o Token.null ts p is d read =
    let j : p.0 ≡ json.null = cc in
    let both : Some null ≡ Some d = sym (ap of_json j) ∙ read in
    let same : d ≡ null = cc in
    ap (is_kind Token.null) same
kind_of_json a o Token.bad ts p is d read = absurd cc

pub kind_read : (k : ℕ) (t : Token) (ts : List Token) (d : Data) (r : List Token) → converted of_json (value k (t ∷ ts)) ≡ Some (d, r) → is_kind t d ≡ true
kind_read k t ts d r is =
    let j = from_json of_json (value k (t ∷ ts)) d r is in
    kind_of_json _ _ t ts (j.0, r) (sym (value_is k (t ∷ ts)) ∙ j.1) d j.2

array_kind : (t : Token) (ds : Items) → is_kind t (array ds) ≡ true → begins_array t ≡ true
array_kind Token.begin_array ds is = refl
array_kind other ds is = absurd cc

object_kind : (t : Token) (ms : Members) → is_kind t (object ms) ≡ true → begins_object t ≡ true
object_kind Token.begin_object ms is = refl
object_kind other ms is = absurd cc

array_is : (t : Token) → begins_array t ≡ true → t ≡ Token.begin_array
array_is Token.begin_array is = refl
array_is other is = absurd cc

pub array_first : (ts : List Token) (t : Token) (rest : List Token) → ts ≡ t ∷ rest → begins_array t ≡ true → ts ≡ Token.begin_array ∷ rest
array_first ts t rest is opens = is ∙ ap (λ x. x ∷ rest) (array_is t opens)

never : {A : Type 0} (b : Bool) → b ≡ false → b ≡ true → A
never true is other = absurd cc
never false is other = absurd cc

-- what doesn't begin as an array is no child
not_array : (t : Token) (d : Data) → begins_array t ≡ false → is_kind t d ≡ true → fields_of d ≡ None
not_array t (array ds) other is = never (begins_array t) other (array_kind t ds is)
not_array t d other is = refl

not_object : (t : Token) (d : Data) → begins_object t ≡ false → is_kind t d ≡ true → as_object d ≡ None
not_object t (object ms) other is = never (begins_object t) other (object_kind t ms is)
not_object t d other is = refl

-- what begins as an object is one
object_of : (d : Data) → is_kind Token.begin_object d ≡ true → (ms : Members) × (d ≡ object ms)
object_of (object ms) is = (ms, refl)
object_of other is = absurd cc

-- neither null, nor a text, nor an object
abbrev pub is_passed : Token → Bool
is_passed Token.null = false
is_passed (Token.string s) = false
is_passed Token.begin_object = false
is_passed _ = true

passed_by : (t : Token) (d : Data) → is_passed t ≡ true → is_kind t d ≡ true → IsField Field.Other d
passed_by (Token.boolean b) (boolean c) other is = (refl, refl, refl)
passed_by (Token.number s) (number n) other is = (refl, refl, refl)
passed_by Token.begin_array (array ds) other is = (refl, refl, refl)
passed_by t d other is = absurd cc

text_kind : (t : Token) (d : Data) → is_kind t d ≡ true → begins_text t ≡ is_some (as_str d)
text_kind (Token.string s) (string text) is = refl
text_kind Token.null null is = refl
text_kind (Token.boolean b) (boolean c) is = refl
text_kind (Token.number s) (number n) is = refl
text_kind Token.begin_array (array ds) is = refl
text_kind Token.begin_object (object ms) is = refl
text_kind t d is = absurd cc

module _ (k : ℕ) (t : Token) (ts : List Token) (d : Data) (r : List Token) (read : converted of_json (value k (t ∷ ts)) ≡ Some (d, r)) where
  pub no_child : begins_array t ≡ false → fields_of d ≡ None
  no_child other = not_array t d other (kind_read k t ts d r read)

  pub no_object : begins_object t ≡ false → as_object d ≡ None
  no_object other = not_object t d other (kind_read k t ts d r read)

  pub a_text : begins_text t ≡ is_some (as_str d)
  a_text = text_kind t d (kind_read k t ts d r read)

  pub other_field : is_passed t ≡ true → IsField Field.Other d
  other_field other = passed_by t d other (kind_read k t ts d r read)

pub an_object : (k : ℕ) (ts : List Token) (d : Data) (r : List Token) → converted of_json (value k (Token.begin_object ∷ ts)) ≡ Some (d, r) → (ms : Members) × (d ≡ object ms)
an_object k ts d r read = object_of d (kind_read k Token.begin_object ts d r read)

-- ---- the count of the tokens is enough turns

none_left : (p : Parse json.Json) → Takes p → (o : Option (json.Json × List Token)) → p [] ≡ o → p [] ≡ None
none_left p takes None is = is
none_left p takes (Some q) is = let less = takes [] q.1 (ap left is) in absurd (omega (arith, less))

module _ (p : Parse json.Json) (takes : Takes p) where
  of_nothing : (m : ℕ) → items p m [] ≡ None
  unfolding items
  of_nothing zero = refl
  of_nothing (suc m) = items_fail p (suc m) [] refl (none_left p takes (p []) refl)

  same_step : (f g : Parse json.Items) (ts : List Token) (o : Option (List Token)) (v : Option (json.Json × List Token)) → p ts ≡ v → ((q : json.Json × List Token) → v ≡ Some q → f q.1 ≡ g q.1) → items_step p f ts o ≡ items_step p g ts o
  same_step f g ts (Some rest) v is same = refl
  same_step f g ts None None is same = rw is refl
  same_step f g ts None (Some q) is same = rw is (ap (parse_map (json.item q.0)) (same q refl))

  enough : (n m : ℕ) (ts : List Token) → length ts ≤ n → length ts ≤ m → items p n ts ≡ items p m ts
  unfolding items
  enough zero m [] a b = sym (of_nothing m)
  enough zero m (t ∷ ts) a b = absurd (omega (arith, a))
  enough (suc n) zero [] a b = of_nothing (suc n)
  enough (suc n) zero (t ∷ ts) a b = absurd (omega (arith, b))
  enough (suc n) (suc m) ts a b =
      same_step (items p n) (items p m) ts (after_end_array ts) (p ts) refl
      (λ q is. let less = takes ts q.1 (ap left is) in enough n m q.1 (omega (arith, a, less)) (omega (arith, b, less)))

-- ---- a list of just two items

no_fields : (d e : Data) → as_object e ≡ None → fields_of (array (item d (item e no_items))) ≡ None
no_fields (string s) (object ms) none = absurd cc
no_fields (string s) e none = refl
no_fields d e none = refl

pub nothing_in : fields_of (array no_items) ≡ None
nothing_in = refl

three : (d e f : Data) (more : Items) → fields_of (array (item d (item e (item f more)))) ≡ None
three (string kind) (object fields) f more = refl
three (string kind) e f more = refl
three d e f more = refl

pub one_no_pair : (d : Data) → fields_of (array (item d no_items)) ≡ None
one_no_pair (string kind) = refl
one_no_pair d = refl

pub pair_text : (d e : Data) (fields : Option Fields) → is_some (as_str d) ≡ true → IsObject fields e → IsChildNode fields (array (item d (item e no_items)))
pair_text (string s) e None is none = no_fields (string s) e none
pair_text (string s) e (Some fields) is some = (some.0, rw some.1 refl, some.2)
pair_text d e fields is of = absurd cc

pub pair_other : (d e : Data) → is_some (as_str d) ≡ false → fields_of (array (item d (item e no_items))) ≡ None
pair_other (string s) e is = absurd cc
pair_other d e is = refl

apart : {A : Type 0} {x : A} → None ≡ Some x → ⊥
apart is = absurd cc

empty : (d : Data) (ds : Items) → no_items ≡ item d ds → ⊥
empty d ds is = absurd cc

-- at least one item stands there
no_items_there : (p : Parse json.Json) (n : ℕ) (ts : List Token) (o : Option (Data × List Token)) → converted of_json (p ts) ≡ o → after_end_array ts ≡ None → (r : List Token) → converted of_items (items p n ts) ≡ Some (no_items, r) → ⊥
no_items_there p n ts None first going r is = apart (sym (no_item p n ts going first) ∙ is)
no_items_there p zero ts (Some q) first going r is = apart (sym (no_turn p ts) ∙ is)
no_items_there p (suc n) ts (Some q) first going r is =
    let next = next_item p (suc n) ts q.1 q.0 (omega arith) going first in
    let m = mapped (item q.0) (converted of_items (items p (suc n - 1) q.1)) (no_items, r) (sym next ∙ is) in
    empty q.0 m.0 m.1

pub more_there : (k n : ℕ) (ts r : List Token) (d e : Data) (ds : Items) → after_end_array ts ≡ None → converted of_items (items (value k) n ts) ≡ Some (ds, r) → fields_of (array (item d (item e ds))) ≡ None
more_there k n ts r d e no_items going is = absurd (no_items_there (value k) n ts (converted of_json (value k ts)) refl going r is)
more_there k n ts r d e (item f more) going is = three d e f more

module _ (k : ℕ) (ts : List Token) where
  pub none_in : (r : List Token) → after_end_array ts ≡ Some r → converted of_items (items (value k) (length ts) ts) ≡ Some (no_items, r)
  none_in r over = last_item (value k) (length ts) ts r (omega arith) over

  pub one_bad : after_end_array ts ≡ None → converted of_json (value k ts) ≡ None → converted of_items (items (value k) (length ts) ts) ≡ None
  one_bad going bad = no_item (value k) (length ts) ts going bad

  module _ (d : Data) (us : List Token) (going : after_end_array ts ≡ None) (first : converted of_json (value k ts) ≡ Some (d, us)) (less : length us < length ts) where
    after_one : converted of_items (items (value k) (length ts) ts) ≡ parse_map (item d) (converted of_items (items (value k) (length us) us))
    after_one =
        next_item (value k) (length ts) ts us d (omega (arith, less)) going first
        ∙ ap (λ o. parse_map (item d) (converted of_items o)) (enough (value k) (skip_value-shorter k) (length ts - 1) (length us) us (omega (arith, less)) (omega arith))

    pub one_in : (r : List Token) → after_end_array us ≡ Some r → converted of_items (items (value k) (length ts) ts) ≡ Some (item d no_items, r)
    one_in r over = after_one ∙ ap (parse_map (item d)) (last_item (value k) (length us) us r (omega arith) over)

    pub two_bad : after_end_array us ≡ None → converted of_json (value k us) ≡ None → converted of_items (items (value k) (length ts) ts) ≡ None
    two_bad on bad = after_one ∙ ap (parse_map (item d)) (no_item (value k) (length us) us on bad)

    module _ (e : Data) (vs : List Token) (on : after_end_array us ≡ None) (second : converted of_json (value k us) ≡ Some (e, vs)) (lesser : length vs < length us) where
      after_two : converted of_items (items (value k) (length ts) ts) ≡ parse_map (item d) (parse_map (item e) (converted of_items (items (value k) (length vs) vs)))
      after_two =
          after_one
          ∙ ap (parse_map (item d))
          (next_item (value k) (length us) us vs e (omega (arith, lesser)) on second
          ∙ ap (λ o. parse_map (item e) (converted of_items o)) (enough (value k) (skip_value-shorter k) (length us - 1) (length vs) vs (omega (arith, lesser)) (omega arith)))

      pub two_in : (r : List Token) → after_end_array vs ≡ Some r → converted of_items (items (value k) (length ts) ts) ≡ Some (item d (item e no_items), r)
      two_in r over = after_two ∙ ap (λ o. parse_map (item d) (parse_map (item e) o)) (last_item (value k) (length vs) vs r (omega arith) over)

      pub rest_bad : converted of_items (items (value k) (length vs) vs) ≡ None → converted of_items (items (value k) (length ts) ts) ≡ None
      rest_bad bad = after_two ∙ ap (λ o. parse_map (item d) (parse_map (item e) o)) bad

      pub rest_in : (ds : Items) (r : List Token) → converted of_items (items (value k) (length vs) vs) ≡ Some (ds, r) → converted of_items (items (value k) (length ts) ts) ≡ Some (item d (item e ds), r)
      rest_in ds r is = after_two ∙ ap (λ o. parse_map (item d) (parse_map (item e) o)) is

-- ---- a whole text

pub whole_is : (ts : List Token) (d : Data) → converted of_json (value 127 ts) ≡ Some (d, []) → data_of ts ≡ Some d
whole_is ts d is = read_whole (value 127 ts) d is

pub whole_bad : (ts : List Token) → converted of_json (value 127 ts) ≡ None → data_of ts ≡ None
whole_bad ts bad = read_none (value 127 ts) bad

pub whole_more : (ts : List Token) (d : Data) (t : Token) (more : List Token) → converted of_json (value 127 ts) ≡ Some (d, t ∷ more) → data_of ts ≡ None
whole_more ts d t more is = read_more (value 127 ts) d t more is

pub object_in : (ts rest left : List Token) (ms : Members) → ts ≡ Token.begin_object ∷ rest → converted (λ j. of_members j no_members) (members (value 126) (length rest) rest) ≡ Some (ms, left)
    → converted of_json (value 127 ts) ≡ Some (object ms, left)
object_in ts rest left ms first read = ap (λ xs. converted of_json (value 127 xs)) first ∙ object_opened 127 rest (omega arith) ∙ ap (parse_map object) read

pub object_bad : (ts rest : List Token) → ts ≡ Token.begin_object ∷ rest → converted (λ j. of_members j no_members) (members (value 126) (length rest) rest) ≡ None → data_of ts ≡ None
object_bad ts rest first bad = whole_bad ts (ap (λ xs. converted of_json (value 127 xs)) first ∙ object_opened 127 rest (omega arith) ∙ ap (parse_map object) bad)
