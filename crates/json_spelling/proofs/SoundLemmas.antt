-- What a text reads to is sound.
use Rattle.std.proofs.Common.{◌≡◌, ℕ, zero, suc, ◌^◌, ◌<◌, ◌≤◌, ◌&&◌, ◌==◌, nat_lt, nat_le, cond, List, Bool, true, false, Option, Some, None, option_map, option_and_then, slice_index, drop, Ordering, Less, Equal, Greater, nat_cmp, refl, ap, subst, ◌∙◌, arith}
use Rattle.std.proofs.lemmas.Bool.{and_parts, ltb-true, leb-true}
use Rattle.std.proofs.lemmas.Cmp.{nat_list_cmp_total}
use Rattle.std.specs.Cmp.Lexicographic.{slice_cmp}
use Rattle.std.specs.Float.{binary64, float_is_finite}
use Rattle.std.specs.Ordering.{match_ordering, ordering_reverse}
use Rattle.std.specs.Prelude.{⊤}
use Rattle.fast_float.specs.Text.{minus, Parts, scan, digits_of, nearest, with_sign}
use Rattle.json.specs.Token.{Token}
use Rattle.json.specs.Lex.{tokens}
use Rattle.json.specs.Json as json
use Rattle.serde_json.specs.Data.{negative, Data, number, array, object, item, Members, no_members, member, put}
use Rattle.serde_json.specs.Read.{is_integer, float_of, number_from, number_of, of_json, of_items, of_members, converted, max_depth, read}
use Rattle.json_spelling.proofs.ReadData.{from_json}
use Rattle.json_spelling.specs.Sound.{IsSoundNum, IsBelowAll, IsSound, ItemsAreSound, MembersAreSound}

-- the fact, where there is a value
abbrev Holds : {A : Type 0} → (A → Type 0) → Option A → Type 0
Holds P None = ⊤
Holds P (Some a) = P a

any : {A : Type 0} (o : Option A) → Holds (λ _. ⊤) o
any None = tt
any (Some a) = tt

holds_map : {A B : Type 0} (P : A → Type 0) (Q : B → Type 0) (f : A → B) → ((a : A) → P a → Q (f a)) → (o : Option A) → Holds P o → Holds Q (option_map f o)
holds_map P Q f h None x = tt
holds_map P Q f h (Some a) x = h a x

holds_then : {A B : Type 0} (P : A → Type 0) (Q : B → Type 0) (f : A → Option B) → ((a : A) → P a → Holds Q (f a)) → (o : Option A) → Holds P o → Holds Q (option_and_then f o)
holds_then P Q f h None x = tt
holds_then P Q f h (Some a) x = h a x

if_holds : {A : Type 0} (P : A → Type 0) (b : Bool) (x y : Option A) → (b ≡ true → Holds P x) → Holds P y → Holds P (cond b x y)
if_holds P true x y h k = h refl
if_holds P false x y h k = k

float_sound : (sign : Bool) (p : Parts) → Holds IsSoundNum (float_of sign p)
float_sound sign p = if_holds IsSoundNum (float_is_finite (nearest binary64 sign p)) _ None (λ _. tt) tt

negative_sound : (n : ℕ) → 0 < n → n ≤ 2 ^ 63 → IsSoundNum (negative (with_sign true n))
negative_sound zero some fits = absurd (omega arith)
negative_sound (suc n) some fits = omega (arith, fits)

number_sound : (sign : Bool) (p : Parts) → Holds IsSoundNum (number_from sign p)
number_sound false p = if_holds IsSoundNum (is_integer p && nat_lt (digits_of p) (2 ^ 64)) _ _ (λ t. ltb-true _ _ (and_parts (is_integer p) _ t).1) (float_sound false p)
number_sound true p =
    if_holds IsSoundNum (is_integer p && nat_lt 0 (digits_of p) && nat_le (digits_of p) (2 ^ 63)) _ _
    (λ t. let two = and_parts (is_integer p && nat_lt 0 (digits_of p)) _ t in let one = and_parts (is_integer p) _ two.0 in negative_sound (digits_of p) (ltb-true _ _ one.1) (leb-true _ _ two.1)) (float_sound true p)

number_of_sound : (s : List ℕ) → Holds IsSoundNum (number_of s)
unfolding number_of
number_of_sound s = if_holds IsSoundNum (slice_index s 0 == minus) _ _ (λ _. number_sound true (scan (drop 1 s))) (number_sound false (scan s))

pub below_trans : (k l : List ℕ) (ms : Members) → slice_cmp nat_cmp k l ≡ Less → IsBelowAll l ms → IsBelowAll k ms
below_trans k l no_members h b = tt
below_trans k l (member m d ms) h b = (nat_list_cmp_total.trans k l m h b.0, below_trans k l ms h b.1)

below_any : (o : Ordering) (l : List ℕ) (a b c : Members) → IsBelowAll l a → IsBelowAll l b → IsBelowAll l c → IsBelowAll l (match_ordering o a b c)
below_any Less l a b c x y z = x
below_any Equal l a b c x y z = y
below_any Greater l a b c x y z = z

below_put : (l k : List ℕ) (d : Data) (ms : Members) → slice_cmp nat_cmp l k ≡ Less → IsBelowAll l ms → IsBelowAll l (put k d ms)
below_put l k d no_members h b = (h, tt)
below_put l k d (member m e ms) h b = below_any (slice_cmp nat_cmp k m) l _ _ _ (h, (b.0, b.1)) (b.0, b.1) (b.0, below_put l k d ms h b.1)

put_sound_at : (o : Ordering) (k l : List ℕ) (d e : Data) (ms : Members) → slice_cmp nat_cmp k l ≡ o → IsSound d → MembersAreSound (member l e ms) → MembersAreSound (put k d ms)
    → MembersAreSound (match_ordering o (member k d (member l e ms)) (member l d ms) (member l e (put k d ms)))
put_sound_at Less k l d e ms is s all rest = (s, (is, below_trans k l ms is all.1), all)
put_sound_at Equal k l d e ms is s all rest = (s, all.1, all.2)
put_sound_at Greater k l d e ms is s all rest = (all.0, below_put l k d ms (nat_list_cmp_total.antisymm l k ∙ ap ordering_reverse is) all.1, rest)

pub put_sound : (k : List ℕ) (d : Data) (ms : Members) → IsSound d → MembersAreSound ms → MembersAreSound (put k d ms)
put_sound k d no_members s all = (s, tt, tt)
put_sound k d (member l e ms) s all = put_sound_at (slice_cmp nat_cmp k l) k l d e ms refl s all (put_sound k d ms s all.2)

mutual
  json_sound : (j : json.Json) → Holds IsSound (of_json j)
  json_sound json.null = tt
  json_sound (json.boolean b) = tt
  json_sound (json.number s) = holds_map IsSoundNum IsSound number (λ n h. h) (number_of s) (number_of_sound s)
  json_sound (json.string s) = tt
  json_sound (json.array js) = holds_map ItemsAreSound IsSound array (λ ds h. h) (of_items js) (items_sound js)
  json_sound (json.object ms) = holds_map MembersAreSound IsSound object (λ ds h. h) (of_members ms no_members) (members_sound ms no_members tt)

  items_sound : (js : json.Items) → Holds ItemsAreSound (of_items js)
  items_sound json.no_items = tt
  items_sound (json.item j js) = holds_then IsSound ItemsAreSound _ (λ d s. holds_map ItemsAreSound ItemsAreSound (item d) (λ ds more. (s, more)) (of_items js) (items_sound js)) (of_json j) (json_sound j)

  members_sound : (ms : json.Members) (found : Members) → MembersAreSound found → Holds MembersAreSound (of_members ms found)
  members_sound json.no_members found all = all
  members_sound (json.member k j ms) found all = holds_then IsSound MembersAreSound _ (λ d s. members_sound ms (put k d found) (put_sound k d found s all)) (of_json j) (json_sound j)

pub read_sound : (text : List ℕ) (d : Data) → read text ≡ Some d → IsSound d
read_sound text d is =
    let o = option_and_then (λ p. json.if_last p.0 p.1) (json.value max_depth (tokens text)) in
    let whole = holds_then (λ _. ⊤) IsSound of_json (λ j _. json_sound j) o (any o) in
    subst (Holds IsSound) is whole

pub converted_sound : (o : Option (json.Json × List Token)) (d : Data) (r : List Token) → converted of_json o ≡ Some (d, r) → IsSound d
converted_sound o d r is = let j = from_json of_json o d r is in subst (Holds IsSound) j.2 (json_sound j.0)

pub made_sound : (j : json.Json) (d : Data) → of_json j ≡ Some d → IsSound d
made_sound j d is = subst (Holds IsSound) is (json_sound j)

pub members_made_sound : (js : json.Members) (ms : Members) → of_members js no_members ≡ Some ms → MembersAreSound ms
members_made_sound js ms is = subst (Holds MembersAreSound) is (members_sound js no_members tt)

pub data_sound : (j : json.Json) (d : Data) → of_json j ≡ Some d → IsSound d
data_sound j d is = subst (Holds IsSound) is (json_sound j)
