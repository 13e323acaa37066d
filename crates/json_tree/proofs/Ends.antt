-- Lists, items and members with one more at their end.
use Rattle.std.proofs.Common.{◌≡◌, ℕ, suc, List, [], ◌∷◌, ◌++◌, length, reverse, Option, Some, None, option_map, option_and_then, refl, ap, ◌∙◌}
use Rattle.std.proofs.lemmas.List.{reverse-append}
use Rattle.json.specs.Json as json
use Rattle.json_stack.specs.Machine.{items_and, members_and}
use Rattle.serde_json.specs.Data.{Data, Items, no_items, item, Members, put}
use Rattle.serde_json.specs.Read.{of_json, of_items, of_members}
use Rattle.serde_json.specs.View.{view, items_view}
use Rattle.serde_json.specs.declared.value.Value.{Value}

pub reverse_more : {A : Type 0} (xs : List A) (x : A) → reverse (xs ++ x ∷ []) ≡ x ∷ reverse xs
reverse_more xs x = reverse-append xs (x ∷ [])

pub length_more : {A : Type 0} (xs : List A) (x : A) → length (xs ++ x ∷ []) ≡ suc (length xs)
length_more [] x = refl
length_more (y ∷ xs) x = ap suc (length_more xs x)

abbrev pub items_last : Items → Data → Items
items_last no_items d = item d no_items
items_last (item e ds) d = item e (items_last ds d)

pub items_view-more : (vs : List Value) (v : Value) → items_view (vs ++ v ∷ []) ≡ items_last (items_view vs) (view v)
items_view-more [] v = refl
items_view-more (w ∷ vs) v = ap (item (view w)) (items_view-more vs v)

item_last : (o : Option Data) → option_and_then (λ d. Some (item d no_items)) o ≡ option_map (λ d. item d no_items) o
item_last None = refl
item_last (Some d) = refl

item_first : (ds : Option Items) (o i : Option Data) → option_and_then (λ e. option_map (item e) (option_and_then (λ es. option_map (items_last es) o) ds)) i ≡ option_and_then (λ es. option_map (items_last es) o) (option_and_then (λ e. option_map (item e) ds) i)
item_first ds o None = refl
item_first None o (Some e) = refl
item_first (Some es) None (Some e) = refl
item_first (Some es) (Some d) (Some e) = refl

pub of_items-items_and : (js : json.Items) (j : json.Json) → of_items (items_and js j) ≡ option_and_then (λ ds. option_map (items_last ds) (of_json j)) (of_items js)
unfolding items_and
of_items-items_and json.no_items j = item_last (of_json j)
of_items-items_and (json.item i js) j =
    ap (λ ds. option_and_then (λ e. option_map (item e) ds) (of_json i)) (of_items-items_and js j) ∙ item_first (of_items js) (of_json j) (of_json i)

member_last : (f : Data → Members) (o : Option Data) → option_and_then (λ d. Some (f d)) o ≡ option_map f o
member_last f None = refl
member_last f (Some d) = refl

member_first : (i : Option Data) (f g : Data → Option Members) (h : Members → Option Members) → ((e : Data) → f e ≡ option_and_then h (g e)) → option_and_then f i ≡ option_and_then h (option_and_then g i)
member_first None f g h same = refl
member_first (Some e) f g h same = same e

pub of_members-members_and : (js : json.Members) (k : List ℕ) (j : json.Json) (found : Members) → of_members (members_and js k j) found ≡ option_and_then (λ ms. option_map (λ d. put k d ms) (of_json j)) (of_members js found)
unfolding members_and
of_members-members_and json.no_members k j found = member_last (λ d. put k d found) (of_json j)
of_members-members_and (json.member l i js) k j found = member_first (of_json i) _ (λ e. of_members js (put l e found)) _ (λ e. of_members-members_and js k j (put l e found))
