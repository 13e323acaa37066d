-- Items and members with one more at their end: the data that they are, and their texts and extents.
use Rattle.std.proofs.Common.{◌≡◌, ℕ, ◌+◌, max, List, [], ◌∷◌, ◌++◌, length, Bool, true, false, ◌||◌, Option, Some, None, option_map, option_and_then, Ordering, Less, Equal, Greater, nat_cmp, refl, sym, ap, ◌∙◌, arith, append-nil, append_assoc}
use Rattle.std.specs.Cmp.Lexicographic.{slice_cmp}
use Rattle.std.specs.Ordering.{ordering_reverse, is_lt}
use Rattle.std.proofs.lemmas.Cmp.{nat_list_cmp_total}
use Rattle.json.specs.Json as json
use Rattle.json.specs.Print.{quoted}
use Rattle.json_stack.specs.Machine.{items_and, members_and}
use Rattle.serde_json.specs.Data.{Data, Items, no_items, item, Members, no_members, member, put, depth, items_depth, members_depth}
use Rattle.serde_json.specs.Read.{of_json, of_items, of_members}
use Rattle.serde_json.specs.Written.{has_float, items_have_float, members_have_float, comma_if, compact_text, items_text, members_text}
use Rattle.json_spelling.specs.Spelled.{rises}
use Rattle.json_spelling.specs.Speller.{DataFrame, data_array, data_object, data_member, has_items, has_members, items_written, members_written, items_with, comma_awaited, frames_text, frames_depth, frames_float, IsAboveMembers}

abbrev pub members_with : Members → List ℕ → Data → Members
members_with no_members k d = member k d no_members
members_with (member l e ms) k d = member l e (members_with ms k d)

-- ---- the data that they are

item_last : (o : Option Data) → option_and_then (λ d. Some (item d no_items)) o ≡ option_map (λ d. item d no_items) o
item_last None = refl
item_last (Some d) = refl

item_first : (ds : Option Items) (o i : Option Data) → option_and_then (λ e. option_map (item e) (option_and_then (λ es. option_map (items_with es) o) ds)) i ≡ option_and_then (λ es. option_map (items_with es) o) (option_and_then (λ e. option_map (item e) ds) i)
item_first ds o None = refl
item_first None o (Some e) = refl
item_first (Some es) None (Some e) = refl
item_first (Some es) (Some d) (Some e) = refl

pub of_items-items_and : (js : json.Items) (j : json.Json) → of_items (items_and js j) ≡ option_and_then (λ ds. option_map (items_with ds) (of_json j)) (of_items js)
unfolding items_and
of_items-items_and json.no_items j = item_last (of_json j)
of_items-items_and (json.item i js) j =
    ap (λ ds. option_and_then (λ e. option_map (item e) ds) (of_json i)) (of_items-items_and js j) ∙ item_first (of_items js) (of_json j) (of_json i)

member_last : (f : Data → Members) (o : Option Data) → option_and_then (λ d. Some (f d)) o ≡ option_map f o
member_last f None = refl
member_last f (Some d) = refl

member_first : (i : Option Data) (f g : Data → Option Members) (h : Members → Option Members) → ((e : Data) → f e ≡ option_and_then h (g e)) → option_and_then f i ≡ option_and_then h (option_and_then g i)
member_first None f g h same = refl
member_first (Some e) f g h same = same e

pub of_members-members_and : (js : json.Members) (k : List ℕ) (j : json.Json) (found : Members) → of_members (members_and js k j) found ≡ option_and_then (λ ms. option_map (λ d. put k d ms) (of_json j)) (of_members js found)
unfolding members_and
of_members-members_and json.no_members k j found = member_last (λ d. put k d found) (of_json j)
of_members-members_and (json.member l i js) k j found = member_first (of_json i) _ (λ e. of_members js (put l e found)) _ (λ e. of_members-members_and js k j (put l e found))

-- ---- a key above each other one goes last

pub put_above : (k : List ℕ) (d : Data) (ms : Members) → IsAboveMembers k ms → put k d ms ≡ members_with ms k d
put_above k d no_members above = refl
put_above k d (member l e ms) above = rw above.0 (ap (member l e) (put_above k d ms above.1))

less_from : (o : Ordering) → is_lt o ≡ true → o ≡ Less
less_from Less is = refl
less_from Equal is = absurd cc
less_from Greater is = absurd cc

reversed : (k l : List ℕ) → slice_cmp nat_cmp k l ≡ Less → slice_cmp nat_cmp l k ≡ Greater
reversed k l less = nat_list_cmp_total.antisymm l k ∙ ap ordering_reverse less

reversed_back : (k l : List ℕ) → slice_cmp nat_cmp k l ≡ Greater → slice_cmp nat_cmp l k ≡ Less
reversed_back k l greater = nat_list_cmp_total.antisymm l k ∙ ap ordering_reverse greater

above_over : (k l : List ℕ) (ms : Members) → slice_cmp nat_cmp l k ≡ Less → IsAboveMembers l ms → IsAboveMembers k ms
above_over k l no_members less above = tt
above_over k l (member m e ms) less above = (reversed m k (nat_list_cmp_total.trans m l k (reversed_back l m above.0) less), above_over k l ms less above.1)

above_last : (k l : List ℕ) (d : Data) (ms : Members) → slice_cmp nat_cmp l k ≡ Less → IsAboveMembers k ms → IsAboveMembers k (members_with ms l d)
above_last k l d no_members less above = (reversed l k less, tt)
above_last k l d (member m e ms) less above = (above.0, above_last k l d ms less above.1)

-- what is above the last key is above each one
pub above_next : (l : List ℕ) (d : Data) (ms : Members) → IsAboveMembers l ms → (k : List ℕ) → rises (Some l) k ≡ true → IsAboveMembers k (members_with ms l d)
above_next l d ms above k next =
    let less = less_from (slice_cmp nat_cmp l k) next in
    above_last k l d ms less (above_over k l ms less above)

-- ---- there is one

pub has_items-items_with : (ds : Items) (d : Data) → has_items (items_with ds d) ≡ true
has_items-items_with no_items d = refl
has_items-items_with (item e ds) d = refl

pub has_members-members_with : (ms : Members) (k : List ℕ) (d : Data) → has_members (members_with ms k d) ≡ true
has_members-members_with no_members k d = refl
has_members-members_with (member l e ms) k d = refl

-- ---- their texts

items_later : (ds : Items) (d : Data) → items_written true (items_with ds d) ≡ items_written true ds ++ (44 ∷ compact_text d)
items_later no_items d = ap (λ s. 44 ∷ s) (append-nil (compact_text d))
items_later (item e ds) d = ap (λ s. 44 ∷ (compact_text e ++ s)) (items_later ds d) ∙ sym (ap (λ s. 44 ∷ s) (append_assoc (compact_text e) _ _))

items_more : (ds : Items) (d : Data) → items_written false (items_with ds d) ≡ items_written false ds ++ (comma_if (has_items ds) ++ compact_text d)
items_more no_items d = append-nil (compact_text d)
items_more (item e ds) d = ap (λ s. compact_text e ++ s) (items_later ds d) ∙ sym (append_assoc (compact_text e) _ _)

pair_then : (k : List ℕ) (d : Data) (s : List ℕ) → quoted k ++ 58 ∷ (compact_text d ++ s) ≡ (quoted k ++ 58 ∷ compact_text d) ++ s
pair_then k d s = sym (append_assoc (quoted k) (58 ∷ compact_text d) s)

members_later : (ms : Members) (k : List ℕ) (d : Data) → members_written true (members_with ms k d) ≡ members_written true ms ++ (44 ∷ (quoted k ++ 58 ∷ compact_text d))
members_later no_members k d = ap (λ s. 44 ∷ (quoted k ++ 58 ∷ s)) (append-nil (compact_text d))
members_later (member l e ms) k d =
    ap (λ s. 44 ∷ (quoted l ++ 58 ∷ (compact_text e ++ s))) (members_later ms k d)
    ∙ ap (λ s. 44 ∷ s) (pair_then l e _ ∙ sym (append_assoc (quoted l ++ 58 ∷ compact_text e) (members_written true ms) _) ∙ ap (λ s. s ++ (44 ∷ (quoted k ++ 58 ∷ compact_text d))) (sym (pair_then l e (members_written true ms))))

members_more : (ms : Members) (k : List ℕ) (d : Data) → members_written false (members_with ms k d) ≡ members_written false ms ++ (comma_if (has_members ms) ++ (quoted k ++ 58 ∷ compact_text d))
members_more no_members k d = ap (λ s. quoted k ++ 58 ∷ s) (append-nil (compact_text d))
members_more (member l e ms) k d =
    ap (λ s. quoted l ++ 58 ∷ (compact_text e ++ s)) (members_later ms k d)
    ∙ (pair_then l e _ ∙ sym (append_assoc (quoted l ++ 58 ∷ compact_text e) (members_written true ms) _) ∙ ap (λ s. s ++ (44 ∷ (quoted k ++ 58 ∷ compact_text d))) (sym (pair_then l e (members_written true ms))))

pub items_closed : (later : Bool) (ds : Items) → items_text later ds ≡ items_written later ds ++ 93 ∷ []
items_closed later no_items = refl
items_closed later (item d ds) = ap (λ s. comma_if later ++ (compact_text d ++ s)) (items_closed true ds) ∙ sym (ap (λ s. comma_if later ++ s) (append_assoc (compact_text d) _ _)) ∙ sym (append_assoc (comma_if later) _ _)

pub members_closed : (later : Bool) (ms : Members) → members_text later ms ≡ members_written later ms ++ 125 ∷ []
members_closed later no_members = refl
members_closed later (member k d ms) =
    ap (λ s. comma_if later ++ (quoted k ++ 58 ∷ (compact_text d ++ s))) (members_closed true ms) ∙ one_closed (comma_if later) (quoted k) (compact_text d) (members_written true ms)
  where
    one_closed : (c q t r : List ℕ) → c ++ (q ++ 58 ∷ (t ++ (r ++ 125 ∷ []))) ≡ (c ++ (q ++ 58 ∷ (t ++ r))) ++ 125 ∷ []
    one_closed c q t r = simp append_assoc

-- ---- their extents

pub or_assoc : (a b c : Bool) → (a || (b || c)) ≡ ((a || b) || c)
or_assoc true b c = refl
or_assoc false b c = refl

pub or_false : (a : Bool) → a ≡ (a || false)
or_false true = refl
or_false false = refl

items_depth-items_with : (ds : Items) (d : Data) → items_depth (items_with ds d) ≡ max (items_depth ds) (depth d)
items_depth-items_with no_items d = omega arith
items_depth-items_with (item e ds) d = omega (arith, items_depth-items_with ds d)

members_depth-members_with : (ms : Members) (k : List ℕ) (d : Data) → members_depth (members_with ms k d) ≡ max (members_depth ms) (depth d)
members_depth-members_with no_members k d = omega arith
members_depth-members_with (member l e ms) k d = omega (arith, members_depth-members_with ms k d)

items_float-items_with : (ds : Items) (d : Data) → items_have_float (items_with ds d) ≡ (items_have_float ds || has_float d)
items_float-items_with no_items d = sym (or_false (has_float d))
items_float-items_with (item e ds) d = ap (λ b. has_float e || b) (items_float-items_with ds d) ∙ or_assoc (has_float e) _ _

members_float-members_with : (ms : Members) (k : List ℕ) (d : Data) → members_have_float (members_with ms k d) ≡ (members_have_float ms || has_float d)
members_float-members_with no_members k d = sym (or_false (has_float d))
members_float-members_with (member l e ms) k d = ap (λ b. has_float e || b) (members_float-members_with ms k d) ∙ or_assoc (has_float e) _ _

-- ---- a value is put into the innermost frame

abbrev WithValue : DataFrame → DataFrame → Data → List DataFrame → Type 0
WithValue old new d fs =
    (frames_text (new ∷ fs) ≡ (frames_text (old ∷ fs) ++ comma_if (comma_awaited (old ∷ fs))) ++ compact_text d)
    × (frames_depth (new ∷ fs) ≡ max (frames_depth (old ∷ fs)) (length (old ∷ fs) + depth d))
    × (frames_float (new ∷ fs) ≡ (frames_float (old ∷ fs) || has_float d))

array_text : (x w c t : List ℕ) → x ++ 91 ∷ (w ++ (c ++ t)) ≡ ((x ++ 91 ∷ w) ++ c) ++ t
array_text x w c t = simp append_assoc

member_text : (x w c q t : List ℕ) → x ++ 123 ∷ (w ++ (c ++ (q ++ 58 ∷ t))) ≡ (x ++ 123 ∷ (w ++ (c ++ (q ++ 58 ∷ [])))) ++ t
member_text x w c q t = simp append_assoc

pub item_put : (ds : Items) (d : Data) (fs : List DataFrame) → WithValue (data_array ds) (data_array (items_with ds d)) d fs
item_put ds d fs =
    let x = frames_text fs ++ comma_if (comma_awaited fs) in (
      ap (λ s. x ++ 91 ∷ s) (items_more ds d) ∙ array_text x (items_written false ds) (comma_if (has_items ds)) (compact_text d),
      omega (arith, items_depth-items_with ds d),
      ap (λ b. frames_float fs || b) (items_float-items_with ds d) ∙ or_assoc (frames_float fs) _ _,
    )

pub member_put : (ms : Members) (k : List ℕ) (d : Data) (fs : List DataFrame) → WithValue (data_member ms k) (data_object (members_with ms k d)) d fs
member_put ms k d fs =
    let x = frames_text fs ++ comma_if (comma_awaited fs) in (
      ap (λ s. x ++ 123 ∷ s) (members_more ms k d) ∙ member_text x (members_written false ms) (comma_if (has_members ms)) (quoted k) (compact_text d) ∙ ap (λ s. s ++ compact_text d) (sym (append-nil _)),
      omega (arith, members_depth-members_with ms k d),
      ap (λ b. frames_float fs || b) (members_float-members_with ms k d) ∙ or_assoc (frames_float fs) _ _,
    )
