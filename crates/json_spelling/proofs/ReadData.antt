-- What the grammar of tokens gives, read as data.
use Rattle.std.proofs.Common.{◌≡◌, ℕ, zero, suc, ◌-◌, ◌<◌, ◌≤◌, List, [], ◌∷◌, length, Bool, true, Option, Some, None, option_map, option_and_then, refl, ap, ◌∙◌, arith}
use Rattle.json.specs.Token.{Token}
use Rattle.json.specs.Json as json
use Rattle.json.specs.Json.{Parse, after_end_array, read_key, items, members, value, parse_map}
use Rattle.json.proofs.Grammar.{value_is, value-begin_array, value-begin_object, items_end, items_more, items_fail, members_end, members_no_key, members_more, members_fail}
use Rattle.serde_json.specs.Data.{Num, Data, null, boolean, number, string, array, object, no_items, item, Members, no_members, put}
use Rattle.serde_json.specs.Read.{number_of, of_json, of_items, of_members, converted}
use Rattle.json_spelling.specs.Spelled.{begins_object}

abbrev left_or : {B : Type 0} → List Token → Option (B × List Token) → List Token
left_or s None = s
left_or s (Some p) = p.1

-- data with what is left come from JSON with the same left
data_from : {A B : Type 0} (f : A → Option B) (a : A) (s : List Token) (x : Option B) → f a ≡ x → (b : B) (r : List Token) → option_map {U = B × List Token} (λ y. (y, s)) x ≡ Some (b, r) → (s ≡ r) × (f a ≡ Some b)
data_from {B = B} f a s None is b r e = absurd cc
data_from {B = B} f a s (Some y) is b r e =
    let pair : Option (B × List Token) = Some (y, s) in
    let same : pair ≡ Some (b, r) = e in
    (ap (λ o. left_or s o) same, is ∙ ap (λ o. option_map (λ p. p.0) o) same)

pub from_json : {A B : Type 0} (f : A → Option B) (o : Option (A × List Token)) (b : B) (r : List Token) → converted f o ≡ Some (b, r) → (a : A) × (o ≡ Some (a, r)) × (f a ≡ Some b)
from_json f None b r e = absurd cc
from_json f (Some p) b r e = let both = data_from f p.0 p.1 (f p.0) refl b r e in (p.0, ap (λ s. Some (p.0, s)) both.0, both.1)

none_from : {B : Type 0} (s : List Token) (x : Option B) → option_map {U = B × List Token} (λ y. (y, s)) x ≡ None → x ≡ None
none_from s None e = refl
none_from s (Some y) e = absurd cc

mapped_left : {A B : Type 0} (g : A → B) (s : List Token) (x : Option A) → option_map {U = B × List Token} (λ y. (y, s)) (option_map g x) ≡ parse_map g (option_map (λ y. (y, s)) x)
mapped_left g s None = refl
mapped_left g s (Some y) = refl

array_data : (o : Option (json.Items × List Token)) → converted of_json (parse_map json.array o) ≡ parse_map array (converted of_items o)
array_data None = refl
array_data (Some p) = mapped_left array p.1 (of_items p.0)

object_data : (o : Option (json.Members × List Token)) → converted of_json (parse_map json.object o) ≡ parse_map object (converted (λ j. of_members j no_members) o)
object_data None = refl
object_data (Some p) = mapped_left object p.1 (of_members p.0 no_members)

item_data : (j : json.Json) (d : Data) → of_json j ≡ Some d → (o : Option (json.Items × List Token)) → converted of_items (parse_map (json.item j) o) ≡ parse_map (item d) (converted of_items o)
item_data j d is None = refl
item_data j d is (Some p) = rw is (mapped_left (item d) p.1 (of_items p.0))

item_no_data : (j : json.Json) → of_json j ≡ None → (o : Option (json.Items × List Token)) → converted of_items (parse_map (json.item j) o) ≡ None
item_no_data j is None = refl
item_no_data j is (Some p) = rw is

member_data : (k : List ℕ) (j : json.Json) (d : Data) (ms : Members) → of_json j ≡ Some d → (o : Option (json.Members × List Token))
    → converted (λ j. of_members j ms) (parse_map (json.member k j) o) ≡ converted (λ j. of_members j (put k d ms)) o
member_data k j d ms is None = refl
member_data k j d ms is (Some p) = rw is

member_no_data : (k : List ℕ) (j : json.Json) (ms : Members) → of_json j ≡ None → (o : Option (json.Members × List Token)) → converted (λ j. of_members j ms) (parse_map (json.member k j) o) ≡ None
member_no_data k j ms is None = refl
member_no_data k j ms is (Some p) = rw is

module _ (p : Parse json.Json) (n : ℕ) (ts : List Token) where
  pub next_item : (r : List Token) (d : Data) → 0 < n → after_end_array ts ≡ None → converted of_json (p ts) ≡ Some (d, r) → converted of_items (items p n ts) ≡ parse_map (item d) (converted of_items (items p (n - 1) r))
  next_item r d some going is =
      let j = from_json of_json (p ts) d r is in
      ap (converted of_items) (items_more p n ts r j.0 some going j.1) ∙ item_data j.0 d j.2 (items p (n - 1) r)

  bad_item : (o : Option (json.Json × List Token)) → p ts ≡ o → 0 < n → after_end_array ts ≡ None → converted of_json o ≡ None → converted of_items (items p n ts) ≡ None
  bad_item None was some going is = ap (converted of_items) (items_fail p n ts going was)
  bad_item (Some q) was some going is =
      ap (converted of_items) (items_more p n ts q.1 q.0 some going was) ∙ item_no_data q.0 (none_from q.1 (of_json q.0) is) (items p (n - 1) q.1)

  pub last_item : (r : List Token) → length ts ≤ n → after_end_array ts ≡ Some r → converted of_items (items p n ts) ≡ Some (no_items, r)
  last_item r enough is = ap (converted of_items) (items_end p n ts r enough is)

  pub next_member : (k : List ℕ) (s r : List Token) (d : Data) (ms : Members) → 0 < n → read_key ts ≡ Some (Some k, s) → converted of_json (p s) ≡ Some (d, r)
      → converted (λ j. of_members j ms) (members p n ts) ≡ converted (λ j. of_members j (put k d ms)) (members p (n - 1) r)
  next_member k s r d ms some key is =
      let j = from_json of_json (p s) d r is in
      ap (converted (λ j. of_members j ms)) (members_more p n k ts s r j.0 some key j.1) ∙ member_data k j.0 d ms j.2 (members p (n - 1) r)

  bad_member : (k : List ℕ) (s : List Token) (ms : Members) (o : Option (json.Json × List Token)) → p s ≡ o → 0 < n → read_key ts ≡ Some (Some k, s) → converted of_json o ≡ None
      → converted (λ j. of_members j ms) (members p n ts) ≡ None
  bad_member k s ms None was some key is = ap (converted (λ j. of_members j ms)) (members_fail p n k ts s key was)
  bad_member k s ms (Some q) was some key is =
      ap (converted (λ j. of_members j ms)) (members_more p n k ts s q.1 q.0 some key was) ∙ member_no_data k q.0 ms (none_from q.1 (of_json q.0) is) (members p (n - 1) q.1)

  pub no_member : (k : List ℕ) (s : List Token) (ms : Members) → 0 < n → read_key ts ≡ Some (Some k, s) → converted of_json (p s) ≡ None → converted (λ j. of_members j ms) (members p n ts) ≡ None
  no_member k s ms = bad_member k s ms (p s) refl

  pub no_key : (ms : Members) → read_key ts ≡ None → converted (λ j. of_members j ms) (members p n ts) ≡ None
  no_key ms is = ap (converted (λ j. of_members j ms)) (members_no_key p n ts is)

  pub last_member : (r : List Token) (ms : Members) → length ts ≤ n → read_key ts ≡ Some (None, r) → converted (λ j. of_members j ms) (members p n ts) ≡ Some (ms, r)
  last_member r ms enough is = ap (converted (λ j. of_members j ms)) (members_end p n ts r enough is)

pub no_turn : (p : Parse json.Json) (ts : List Token) → converted of_items (items p zero ts) ≡ None
unfolding items
no_turn p ts = refl

pub no_item : (p : Parse json.Json) (n : ℕ) (ts : List Token) → after_end_array ts ≡ None → converted of_json (p ts) ≡ None → converted of_items (items p n ts) ≡ None
no_item p zero ts going is = no_turn p ts
no_item p (suc n) ts going is = bad_item p (suc n) ts (p ts) refl (omega arith) going is

-- ---- a value, by its first token

module _ (k : ℕ) (ts : List Token) where
  pub null_read : converted of_json (value k (Token.null ∷ ts)) ≡ Some (null, ts)
  null_read = ap (converted of_json) (value_is k (Token.null ∷ ts))

  pub boolean_read : (b : Bool) → converted of_json (value k (Token.boolean b ∷ ts)) ≡ Some (boolean b, ts)
  boolean_read b = ap (converted of_json) (value_is k (Token.boolean b ∷ ts))

  pub string_read : (s : List ℕ) → converted of_json (value k (Token.string s ∷ ts)) ≡ Some (string s, ts)
  string_read s = ap (converted of_json) (value_is k (Token.string s ∷ ts))

  pub number_read : (s : List ℕ) (n : Num) → number_of s ≡ Some n → converted of_json (value k (Token.number s ∷ ts)) ≡ Some (number n, ts)
  number_read s n is = ap (converted of_json) (value_is k (Token.number s ∷ ts)) ∙ rw is

  pub number_refused : (s : List ℕ) → number_of s ≡ None → converted of_json (value k (Token.number s ∷ ts)) ≡ None
  number_refused s is = ap (converted of_json) (value_is k (Token.number s ∷ ts)) ∙ rw is

  pub array_opened : 0 < k → converted of_json (value k (Token.begin_array ∷ ts)) ≡ parse_map array (converted of_items (items (value (k - 1)) (length ts) ts))
  array_opened some = ap (converted of_json) (value-begin_array k ts some) ∙ array_data (items (value (k - 1)) (length ts) ts)

  pub object_opened : 0 < k → converted of_json (value k (Token.begin_object ∷ ts)) ≡ parse_map object (converted (λ j. of_members j no_members) (members (value (k - 1)) (length ts) ts))
  object_opened some = ap (converted of_json) (value-begin_object k ts some) ∙ object_data (members (value (k - 1)) (length ts) ts)

-- ---- a first token that opens

first_is : (t : Token) → begins_object t ≡ true → t ≡ Token.begin_object
first_is Token.begin_object is = refl
first_is Token.end_object is = absurd cc
first_is Token.begin_array is = absurd cc
first_is Token.end_array is = absurd cc
first_is (Token.key s) is = absurd cc
first_is (Token.string s) is = absurd cc
first_is (Token.number s) is = absurd cc
first_is (Token.boolean b) is = absurd cc
first_is Token.null is = absurd cc
first_is Token.bad is = absurd cc

pub object_first : (ts : List Token) (t : Token) (rest : List Token) → ts ≡ t ∷ rest → begins_object t ≡ true → ts ≡ Token.begin_object ∷ rest
object_first ts t rest is opens = is ∙ ap (λ x. x ∷ rest) (first_is t opens)

-- ---- a whole text

pub read_whole : (o : Option (json.Json × List Token)) (d : Data) → converted of_json o ≡ Some (d, []) → option_and_then of_json (option_and_then (λ p. json.if_last p.0 p.1) o) ≡ Some d
read_whole o d is =
    let j = from_json of_json o d [] is in
    ap (λ q. option_and_then of_json (option_and_then (λ p. json.if_last p.0 p.1) q)) j.1 ∙ j.2

pub read_more : (o : Option (json.Json × List Token)) (d : Data) (t : Token) (ts : List Token) → converted of_json o ≡ Some (d, t ∷ ts) → option_and_then of_json (option_and_then (λ p. json.if_last p.0 p.1) o) ≡ None
read_more o d t ts is =
    let j = from_json of_json o d (t ∷ ts) is in
    ap (λ q. option_and_then of_json (option_and_then (λ p. json.if_last p.0 p.1) q)) j.1

last_of : (j : json.Json) (ts : List Token) → of_json j ≡ None → option_and_then of_json (json.if_last j ts) ≡ None
last_of j [] is = is
last_of j (t ∷ ts) is = refl

pub read_none : (o : Option (json.Json × List Token)) → converted of_json o ≡ None → option_and_then of_json (option_and_then (λ p. json.if_last p.0 p.1) o) ≡ None
read_none None is = refl
read_none (Some p) is = last_of p.0 p.1 (none_from p.1 (of_json p.0) is)
