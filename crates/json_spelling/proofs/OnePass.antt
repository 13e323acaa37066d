-- What one pass over the tokens of JSON writes.
use Rattle.std.proofs.Common.{◌≡◌, ℕ, suc, ◌+◌, ◌≤◌, max, ◌==◌, List, [], ◌∷◌, ◌++◌, length, get_or, drop, Bool, true, false, ◌&&◌, ◌||◌, not, nat_le, Option, Some, None, option_map, option_and_then, is_some, cond, String, Global, string_bytes, string_cmp, Ordering, Less, Equal, Greater, nat_cmp, refl, sym, ap, ap₂, ◌∙◌, subst, arith, append-nil, append_assoc}
use Rattle.std.proofs.lemmas.Bool.{and_parts}
use Rattle.std.proofs.lemmas.Str.{IsUtf8-append, IsUtf8-string_bytes}
use Rattle.std.specs.Bool.{MatchBool}
use Rattle.std.specs.Str.{IsUtf8, is_utf8}
use Rattle.std.specs.Cmp.Lexicographic.{slice_cmp}
use Rattle.std.specs.Ordering.{match_ordering, ordering_reverse, is_lt}
use Rattle.std.proofs.lemmas.Cmp.{nat_list_cmp_total}
use Rattle.std.specs.BTreeMap.{insert_entry}
use Rattle.fast_float.specs.Text.{scan}
use Rattle.json.specs.Token.{Token}
use Rattle.json.specs.Lex.{tokens}
use Rattle.json.specs.Json as json
use Rattle.json.specs.Json.{Parse, after_end_array, read_key, items, members, value, parse_map}
use Rattle.json.specs.Print.{print, print_from, quoted, token_text}
use Rattle.json.proofs.Printed.Utf8.{are_ascii, IsUtf8-are_ascii, IsUtf8-quoted}
use Rattle.json.proofs.Grammar.{value_is}
use Rattle.serde_json.specs.Data.{Num, Data, null, number, array, object, Items, no_items, item, Members, no_members, member, put, depth, members_depth}
use Rattle.serde_json.specs.Find.{as_object}
use Rattle.serde_json.specs.Read.{number_of, number_from, of_json, of_items, of_members, converted, read}
use Rattle.serde_json.specs.Written.{has_float, members_have_float, comma_if, compact_text, items_text, members_text}
use Rattle.serde_json.proofs.Nesting.{depth-read}
use Rattle.json_spelling.proofs.AtKeys.{at_put}
use Rattle.json_spelling.proofs.Json.{json_read, json_refused, none_spelled, other_spelled, spelled, spells_itself}
use Rattle.json_spelling.proofs.Printed.{printed}
use Rattle.json_spelling.proofs.ReadData.{from_json, object_opened, read_whole, read_more, read_none}
use Rattle.json_spelling.proofs.SoundLemmas.{read_sound}
use Rattle.json_spelling.specs.Metadata.{json_of, metadata_of, spelling_of, is_metadata, if_metadata}
use Rattle.std.specs.Prelude.{if◌then◌else◌}
use Rattle.json_spelling.specs.Spelled.{IsExtent, IsSpelled, AreSpelled, SpellsMetadata, AreNoMetadata, begins_object, rises, spelled_text, entries_levels, entries_fractional}
use Rattle.json_spelling.specs.declared.extent.Extent.{Extent}
use Rattle.json_spelling.specs.declared.spelling.Spelled.{Spelled}

-- ---- tokens

pub print_one : (t : Token) → print (t ∷ []) ≡ token_text t
unfolding print_from
print_one t = append-nil (token_text t)

pub signed_number : (s : List ℕ) → (get_or s 0 0 == 45) ≡ true → (text : List ℕ) → s ≡ text → number_from true (scan (drop 1 s)) ≡ number_of text
unfolding number_of
signed_number s minus text same = let read : number_from true (scan (drop 1 s)) ≡ number_of s = rw minus in read ∙ ap number_of same

pub unsigned_number : (s : List ℕ) → (get_or s 0 0 == 45) ≡ false → (text : List ℕ) → s ≡ text → number_from false (scan s) ≡ number_of text
unfolding number_of
unsigned_number s none text same = let read : number_from false (scan s) ≡ number_of s = rw none in read ∙ ap number_of same

-- ---- how deep it is, and whether a number in it is not a whole one

or_assoc : (a b c : Bool) → ((a || b) || c) ≡ (a || (b || c))
or_assoc true b c = refl
or_assoc false b c = refl

or_false : (a : Bool) → (a || false) ≡ a
or_false true = refl
or_false false = refl

-- nothing stands beside what follows
pub beside_all : (extent : Extent) → IsExtent extent 0 false → (x : ℕ) (p : Bool) → (x ≡ max extent.levels x) × (p ≡ (extent.fractional || p))
beside_all extent flat x p = (omega arith, sym (ap (λ b. b || p) flat.1))

-- one more stands beside what follows
pub beside_more : (old one new : Extent) (x y total : ℕ) (p q all : Bool) → (total ≡ max old.levels (max x y)) × (all ≡ (old.fractional || (p || q))) → IsExtent one x p
    → IsExtent new (max old.levels one.levels) (old.fractional || one.fractional) → (total ≡ max new.levels y) × (all ≡ (new.fractional || q))
beside_more old one new x y total p q all before is beside =
    let fractional = beside.1 ∙ ap (λ b. old.fractional || b) is.1 in
    (omega arith, before.1 ∙ sym (ap (λ b. b || q) fractional ∙ or_assoc old.fractional p q))

-- nothing follows
pub beside_none : (extent : Extent) (total : ℕ) (all : Bool) → (total ≡ max extent.levels 0) × (all ≡ (extent.fractional || false)) → IsExtent extent total all
beside_none extent total all is = (omega arith, sym (is.1 ∙ or_false extent.fractional))

-- an array or an object stands around it
pub opened_extent : (extent opened : Extent) (x : ℕ) (p : Bool) → IsExtent extent x p → IsExtent opened (extent.levels + 1) extent.fractional → IsExtent opened (suc x) p
opened_extent extent opened x p is around = (omega arith, around.1 ∙ is.1)

-- its extent decides whether an object is metadata
pub object_fits : (extent opened : Extent) (ms : Members) (fit : Bool) → IsExtent extent (members_depth ms) (members_have_float ms) → IsExtent opened (extent.levels + 1) extent.fractional
    → fit ≡ (not opened.fractional && nat_le opened.levels 100) → fit ≡ is_metadata (object ms)
object_fits extent opened ms fit is around fits =
    let all = opened_extent extent opened (members_depth ms) (members_have_float ms) is around in
    fits ∙ ap₂ (λ b n. not b && nat_le n 100) all.1 all.0

-- ---- what is written is UTF-8

comma_utf8 : (later : Bool) → IsUtf8 (comma_if later)
comma_utf8 true = IsUtf8-are_ascii (44 ∷ []) refl
comma_utf8 false = IsUtf8-are_ascii [] refl

pub item_utf8 : (later : Bool) (d : Data) (rest : Items) → IsUtf8 (compact_text d) → IsUtf8 (items_text true rest) → IsUtf8 (items_text later (item d rest))
item_utf8 later d rest this more = IsUtf8-append (comma_if later) _ (comma_utf8 later) (IsUtf8-append (compact_text d) _ this more)

pub opened_utf8 : (x : ℕ) (s : List ℕ) → are_ascii (x ∷ []) ≡ true → IsUtf8 s → IsUtf8 (x ∷ s)
opened_utf8 x s is utf8 = IsUtf8-append (x ∷ []) s (IsUtf8-are_ascii (x ∷ []) is) utf8

-- ---- an array's items, one after another

pub items_opened : (start out : List ℕ) (rest : Items) → out ≡ start ++ 91 ∷ [] → start ++ 91 ∷ items_text false rest ≡ out ++ items_text false rest
items_opened start out rest is = sym (ap (λ s. s ++ items_text false rest) is ∙ append_assoc start (91 ∷ []) (items_text false rest))

pub one_item : (start out : List ℕ) (later : Bool) (d : Data) (rest : Items) (total parted new : List ℕ) → total ≡ out ++ items_text later (item d rest) → parted ≡ out ++ comma_if later → new ≡ parted ++ compact_text d
    → total ≡ new ++ items_text true rest
one_item start out later d rest total parted new is part whole =
    let text = whole ∙ ap (λ s. s ++ compact_text d) part in
    is ∙ sym (ap (λ s. s ++ items_text true rest) text ∙ append_assoc (out ++ comma_if later) (compact_text d) (items_text true rest) ∙ append_assoc out (comma_if later) _)

pub items_closed : (start out new : List ℕ) (later : Bool) (ds : Items) → start ++ 91 ∷ items_text false ds ≡ out ++ items_text later no_items → new ≡ out ++ 93 ∷ [] → new ≡ start ++ 91 ∷ items_text false ds
items_closed start out new later ds is closed = closed ∙ sym is

pub parse_map_twice : {A B C : Type 0} (f : B → C) (g : A → B) (o : Option (A × List Token)) → parse_map f (parse_map g o) ≡ parse_map (λ a. f (g a)) o
parse_map_twice f g None = refl
parse_map_twice f g (Some p) = refl

pub parse_map_none : {A : Type 0} (o : Option (A × List Token)) → o ≡ parse_map (λ a. a) o
parse_map_none None = refl
parse_map_none (Some p) = refl

-- ---- an object's members, at their keys

pub gathered : (es new : List (String Global × Spelled)) (ms : Members) (k : String Global) (v : Spelled) (d : Data) (name before : List ℕ) → new ≡ insert_entry string_cmp es k v → string_bytes k ≡ name → AreSpelled es ms → before ≡ []
    → v.text.items ≡ before ++ compact_text d → IsExtent v.extent (depth d) (has_float d) → IsUtf8 (compact_text d) → AreSpelled new (put name d ms)
gathered es new ms k v d name before grown named are empty text extent utf8 =
    let same = text ∙ ap (λ xs. xs ++ compact_text d) empty in
    let put_there : AreSpelled (insert_entry string_cmp es k v) (put (string_bytes k) d ms) = at_put (λ l f spelled. IsSpelled spelled f) es ms k v d are (same, extent, subst IsUtf8 (sym same) utf8) in
    subst (λ xs. AreSpelled xs (put name d ms)) (sym grown) (subst (λ x. AreSpelled (insert_entry string_cmp es k v) (put x d ms)) named put_there)

levels_of_one : (o : Ordering) (xs ys zs : List (String Global × Spelled)) (most : ℕ) → entries_levels xs ≤ most → entries_levels ys ≤ most → entries_levels zs ≤ most → entries_levels (match_ordering o xs ys zs) ≤ most
levels_of_one Less xs ys zs most a b c = a
levels_of_one Equal xs ys zs most a b c = b
levels_of_one Greater xs ys zs most a b c = c

levels_inserted : (es : List (String Global × Spelled)) (k : String Global) (v : Spelled) (most : ℕ) → entries_levels es ≤ most → v.extent.levels ≤ most → entries_levels (insert_entry string_cmp es k v) ≤ most
levels_inserted [] k v most those this = omega arith
levels_inserted (e ∷ es) k v most those this =
    let more = levels_inserted es k v most (omega arith) this in
    levels_of_one (string_cmp k e.0) _ _ _ most (omega arith) (omega arith) (omega arith)

-- values are no deeper with one more that is no deeper
pub gathered_levels : (es new : List (String Global × Spelled)) (k : String Global) (v : Spelled) (most : ℕ) → new ≡ insert_entry string_cmp es k v → entries_levels es ≤ most → v.extent.levels ≤ most → entries_levels new ≤ most
gathered_levels es new k v most grown those this = subst (λ xs. entries_levels xs ≤ most) (sym grown) (levels_inserted es k v most those this)

spelled_written : (later : Bool) (es : List (String Global × Spelled)) (ms : Members) → AreSpelled es ms → spelled_text later es ≡ members_text later ms
spelled_written later [] no_members are = refl
spelled_written later [] (member l f ms) are = absurd are
spelled_written later (e ∷ es) no_members are = absurd are
spelled_written later (e ∷ es) (member l f ms) are =
    rw (are.0, are.1.0) (ap (λ s. comma_if later ++ (quoted l ++ 58 ∷ (compact_text f ++ s))) (spelled_written true es ms are.2))

-- what is put is the text of the members
pub put_text : (before after : List ℕ) (es : List (String Global × Spelled)) (ms : Members) → AreSpelled es ms → after ≡ before ++ 123 ∷ spelled_text false es → after ≡ before ++ 123 ∷ members_text false ms
put_text before after es ms are is = is ∙ ap (λ s. before ++ 123 ∷ s) (spelled_written false es ms are)

same_extent : (es : List (String Global × Spelled)) (ms : Members) → AreSpelled es ms → (entries_levels es ≡ members_depth ms) × (entries_fractional es ≡ members_have_float ms)
same_extent [] no_members are = (refl, refl)
same_extent [] (member l f ms) are = absurd are
same_extent (e ∷ es) no_members are = absurd are
same_extent (e ∷ es) (member l f ms) are =
    let more = same_extent es ms are.2 in
    (ap₂ max are.1.1.0 more.0, ap₂ (λ a b. a || b) are.1.1.1 more.1)

-- the extent of spelled members is that of the members
pub spelled_extent : (extent : Extent) (es : List (String Global × Spelled)) (ms : Members) → AreSpelled es ms → IsExtent extent (entries_levels es) (entries_fractional es) → IsExtent extent (members_depth ms) (members_have_float ms)
spelled_extent extent es ms are is = let same = same_extent es ms are in (is.0 ∙ same.0, is.1 ∙ same.1)

pub member_utf8 : (later : Bool) (k : String Global) (l : List ℕ) (d : Data) (ms : Members) → string_bytes k ≡ l → IsUtf8 (compact_text d) → IsUtf8 (members_text true ms) → IsUtf8 (members_text later (member l d ms))
member_utf8 later k l d ms is this more =
    let key = subst (λ s. IsUtf8 (quoted s)) is (IsUtf8-quoted (string_bytes k) (IsUtf8-string_bytes k)) in
    IsUtf8-append (comma_if later) _ (comma_utf8 later) (IsUtf8-append (quoted l) _ key (opened_utf8 58 _ refl (IsUtf8-append (compact_text d) _ this more)))

pub spelled_utf8 : (later : Bool) (es : List (String Global × Spelled)) (ms : Members) → AreSpelled es ms → IsUtf8 (members_text later ms)
spelled_utf8 later [] no_members are = IsUtf8-are_ascii (125 ∷ []) refl
spelled_utf8 later [] (member l f ms) are = absurd are
spelled_utf8 later (e ∷ es) no_members are = absurd are
spelled_utf8 later (e ∷ es) (member l f ms) are = member_utf8 later e.0 l f ms are.0 (subst IsUtf8 are.1.0 are.1.2) (spelled_utf8 true es ms are.2)

one_member : (a c q t r : List ℕ) → (((a ++ c) ++ (q ++ 58 ∷ [])) ++ t) ++ r ≡ a ++ (c ++ (q ++ 58 ∷ (t ++ r)))
one_member a c q t r = simp append_assoc

-- ---- members that are written as they come

less_from : (o : Ordering) → is_lt o ≡ true → o ≡ Less
less_from Less is = refl
less_from Equal is = absurd cc
less_from Greater is = absurd cc

put_behind : (l k : List ℕ) (e d : Data) (rest : Members) → rises (Some l) k ≡ true → put k d (member l e rest) ≡ member l e (put k d rest)
put_behind l k e d rest above =
    let greater : slice_cmp nat_cmp k l ≡ Greater = nat_list_cmp_total.antisymm k l ∙ ap ordering_reverse (less_from (slice_cmp nat_cmp l k) above) in
    rw greater

rises_over : (last : Option (List ℕ)) (l k : List ℕ) → rises last l ≡ true → rises (Some l) k ≡ true → rises last k ≡ true
rises_over None l k first next = refl
rises_over (Some m) l k first next =
    ap is_lt (nat_list_cmp_total.trans m l k (less_from (slice_cmp nat_cmp m l) first) (less_from (slice_cmp nat_cmp l k) next))

pub still_last : (f : Members → Members) (last : Option (List ℕ)) (l : List ℕ) (e : Data) → ((k : List ℕ) (d : Data) (rest : Members) → rises last k ≡ true → put k d (f rest) ≡ f (put k d rest)) → rises last l ≡ true
    → (k : List ℕ) (d : Data) (rest : Members) → rises (Some l) k ≡ true → put k d (f (member l e rest)) ≡ f (member l e (put k d rest))
still_last f last l e before first k d rest next =
    before k d (member l e rest) (rises_over last l k first next) ∙ ap f (put_behind l k e d rest next)

pub members_opened : (start out : List ℕ) (rest : Members) → out ≡ start ++ 123 ∷ [] → start ++ 123 ∷ members_text false rest ≡ out ++ members_text false rest
members_opened start out rest is = sym (ap (λ s. s ++ members_text false rest) is ∙ append_assoc start (123 ∷ []) (members_text false rest))

pub risen_member : (out : List ℕ) (later : Bool) (k : List ℕ) (d : Data) (rest : Members) (total parted named new : List ℕ) → total ≡ out ++ members_text later (member k d rest) → parted ≡ out ++ comma_if later
    → named ≡ parted ++ (quoted k ++ 58 ∷ []) → new ≡ named ++ compact_text d → total ≡ new ++ members_text true rest
risen_member out later k d rest total parted named new is part name whole =
    let text = whole ∙ ap (λ s. s ++ compact_text d) (name ∙ ap (λ s. s ++ (quoted k ++ 58 ∷ [])) part) in
    is ∙ sym (ap (λ s. s ++ members_text true rest) text ∙ one_member out (comma_if later) (quoted k) (compact_text d) (members_text true rest))

pub risen_utf8 : (later : Bool) (l : List ℕ) (d : Data) (rest : Members) → IsUtf8 (quoted l ++ 58 ∷ []) → IsUtf8 (compact_text d) → IsUtf8 (members_text true rest) → IsUtf8 (members_text later (member l d rest))
risen_utf8 later l d rest key this more =
    let named = subst IsUtf8 (append_assoc (quoted l) (58 ∷ []) (compact_text d ++ members_text true rest)) (IsUtf8-append (quoted l ++ 58 ∷ []) _ key (IsUtf8-append (compact_text d) _ this more)) in
    IsUtf8-append (comma_if later) _ (comma_utf8 later) named

-- ---- a whole text

-- what was read of tokens, where the data that they are is known
from_whole : (o : Option (json.Json × List Token)) (d : Data) → option_and_then of_json (option_and_then (λ p. json.if_last p.0 p.1) o) ≡ Some d → (p : json.Json × List Token) × (o ≡ Some p) × (of_json p.0 ≡ Some d)
from_whole None d is = absurd cc
from_whole (Some (j, [])) d is = ((j, []), refl, is)
from_whole (Some (j, t ∷ ts)) d is = absurd cc

abbrev data_or : Option Data → Data
data_or None = null
data_or (Some d) = d

abbrev data_in : json.Json × List Token → Option Data
data_in p = of_json p.0

same_data : (o : Option (json.Json × List Token)) (e d : Data) (r : List Token) → converted of_json o ≡ Some (e, r) → option_and_then of_json (option_and_then (λ p. json.if_last p.0 p.1) o) ≡ Some d → e ≡ d
same_data o e d r is whole =
    let one = from_json of_json o e r is in
    let two = from_whole o d whole in
    let pair : Option (json.Json × List Token) = Some (one.0, r) in
    let same : pair ≡ Some two.0 = sym one.1 ∙ two.1 in
    ap data_or (sym one.2 ∙ ap (option_and_then data_in) same ∙ two.2)

abbrev is_object_json : json.Json → Bool
is_object_json (json.object ms) = true
is_object_json _ = false

abbrev reads_object : Option (json.Json × List Token) → Bool
reads_object None = false
reads_object (Some p) = is_object_json p.0

array_only : (o : Option (json.Items × List Token)) → reads_object (parse_map json.array o) ≡ false
array_only None = refl
array_only (Some p) = refl

first_decides : (a : Parse json.Items) (o : Parse json.Members) (t : Token) (ts : List Token) → begins_object t ≡ false → reads_object (json.value_with a o (t ∷ ts)) ≡ false
first_decides a o Token.begin_object ts is = absurd cc
first_decides a o Token.end_object ts is = refl
first_decides a o Token.begin_array ts is = array_only (a ts)
first_decides a o Token.end_array ts is = refl
first_decides a o (Token.key s) ts is = refl
first_decides a o (Token.string s) ts is = refl
first_decides a o (Token.number s) ts is = refl
first_decides a o (Token.boolean b) ts is = refl
first_decides a o Token.null ts is = refl
first_decides a o Token.bad ts is = refl

abbrev gives_object : Option Data → Bool
gives_object None = false
gives_object (Some d) = is_some (as_object d)

number_only : (o : Option Num) → gives_object (option_map number o) ≡ false
number_only None = refl
number_only (Some n) = refl

items_only : (o : Option Items) → gives_object (option_map array o) ≡ false
items_only None = refl
items_only (Some ds) = refl

no_object : (j : json.Json) → is_object_json j ≡ false → gives_object (of_json j) ≡ false
no_object json.null is = refl
no_object (json.boolean b) is = refl
no_object (json.number s) is = number_only (number_of s)
no_object (json.string s) is = refl
no_object (json.array js) is = items_only (of_items js)
no_object (json.object ms) is = absurd cc

no_metadata : (d : Data) → is_some (as_object d) ≡ false → is_metadata d ≡ false
no_metadata d none = rw none

pub none_there : (ts : List Token) → ts ≡ [] → AreNoMetadata ts
none_there ts none d is =
    let nothing : value 127 ts ≡ None = ap (value 127) none ∙ value_is 127 [] in
    let two = from_whole (value 127 ts) d is in
    let never : None ≡ Some two.0 = sym nothing ∙ two.1 in
    absurd cc

pub other_there : (ts : List Token) (t : Token) (rest : List Token) → ts ≡ t ∷ rest → begins_object t ≡ false → AreNoMetadata ts
other_there ts t rest first other d is =
    let two = from_whole (value 127 ts) d is in
    let seen = ap reads_object (sym two.1) ∙ ap (λ xs. reads_object (value 127 xs)) first ∙ ap reads_object (value_is 127 (t ∷ rest)) ∙ first_decides _ _ t rest other in
    no_metadata d (ap gives_object (sym two.2) ∙ no_object two.0.0 seen)

pub refused_there : (ts rest : List Token) → ts ≡ Token.begin_object ∷ rest → converted (λ j. of_members j no_members) (members (value 126) (length rest) rest) ≡ None → AreNoMetadata ts
refused_there ts rest first none d is =
    let nothing = ap (λ xs. converted of_json (value 127 xs)) first ∙ object_opened 127 rest (omega arith) ∙ ap (parse_map object) none in
    let never : None ≡ Some d = sym (read_none (value 127 ts) nothing) ∙ is in
    absurd cc

module _ (ts rest left : List Token) (ms : Members) (first : ts ≡ Token.begin_object ∷ rest) (read : converted (λ j. of_members j no_members) (members (value 126) (length rest) rest) ≡ Some (ms, left)) where
  object_there : converted of_json (value 127 ts) ≡ Some (object ms, left)
  object_there = ap (λ xs. converted of_json (value 127 xs)) first ∙ object_opened 127 rest (omega arith) ∙ ap (parse_map object) read

  pub more_there : (t : Token) (more : List Token) → left ≡ t ∷ more → AreNoMetadata ts
  more_there t more is d whole =
      let never : None ≡ Some d = sym (read_more (value 127 ts) (object ms) t more (object_there ∙ ap (λ xs. Some (object ms, xs)) is)) ∙ whole in
      absurd cc

  pub metadata_there : (before after : List ℕ) (fit : Bool) → left ≡ [] → fit ≡ is_metadata (object ms) → after ≡ before ++ 123 ∷ members_text false ms → IsUtf8 (members_text false ms)
      → MatchBool fit (SpellsMetadata ts before after) (AreNoMetadata ts)
  metadata_there before after true none fits text utf8 =
      (object ms, read_whole (value 127 ts) (object ms) (object_there ∙ ap (λ xs. Some (object ms, xs)) none), sym fits, text, opened_utf8 123 _ refl utf8)
  metadata_there before after false none fits text utf8 = λ d is. ap is_metadata (sym (same_data (value 127 ts) (object ms) d left object_there is)) ∙ sym fits

-- ---- the bytes of a text

not_true : (b : Bool) → not b ≡ true → b ≡ false
not_true true is = sym is
not_true false is = refl

read_if : (bytes : List ℕ) (b : Bool) (d : Data) → cond b (read bytes) None ≡ Some d → read bytes ≡ Some d
read_if bytes true d is = is
read_if bytes false d is = absurd cc

json_is_read : (bytes : List ℕ) (d : Data) → json_of bytes ≡ Some d → read bytes ≡ Some d
unfolding json_of
json_is_read bytes d is = read_if bytes (is_utf8 bytes) d is

unspelled_at : (bytes : List ℕ) (o : Option Data) → json_of bytes ≡ o → AreNoMetadata (tokens bytes) → spelling_of bytes ≡ None
unspelled_at bytes None is none = none_spelled bytes is
unspelled_at bytes (Some d) is none = other_spelled bytes d is (none d (json_is_read bytes d is))

pub unspelled : (bytes text : List ℕ) → text ≡ bytes → AreNoMetadata (tokens text) → spelling_of bytes ≡ None
unspelled bytes text same none = unspelled_at bytes (json_of bytes) refl (subst (λ s. AreNoMetadata (tokens s)) same none)

pub no_text : (bytes : List ℕ) → (IsUtf8 bytes → ⊥) → spelling_of bytes ≡ None
no_text bytes none = none_spelled bytes (json_refused bytes (λ utf8. absurd (none utf8)))

pub spelled_bytes : (bytes text kept : List ℕ) → text ≡ bytes → IsUtf8 bytes → SpellsMetadata (tokens text) [] kept → spelling_of bytes ≡ Some kept
spelled_bytes bytes text kept same utf8 made =
    let is : read bytes ≡ Some made.0 = subst (λ s. read s ≡ Some made.0) same made.1 in
    spelled bytes made.0 (json_read bytes made.0 utf8 is) made.2 ∙ ap Some (sym made.3)

metadata_read : (bytes : List ℕ) (o : Option Data) → json_of bytes ≡ o → (text : List ℕ) → option_map compact_text (option_and_then if_metadata o) ≡ Some text → (d : Data) × (read bytes ≡ Some d) × (is_metadata d ≡ true) × (text ≡ compact_text d)
metadata_read bytes None is text spelling = absurd cc
metadata_read bytes (Some d) is text spelling = by_kind (is_metadata d) refl
  where
    by_kind : (b : Bool) → is_metadata d ≡ b → (e : Data) × (read bytes ≡ Some e) × (is_metadata e ≡ true) × (text ≡ compact_text e)
    by_kind true good =
        let some : Some (compact_text d) ≡ Some text = sym (ap (option_map compact_text) (ap (λ b. if b then Some d else None) good)) ∙ spelling in
        (d, json_is_read bytes d is, good, grind arith)
    by_kind false other =
        let none : None ≡ Some text = sym (ap (option_map compact_text) (ap (λ b. if b then Some d else None) other)) ∙ spelling in
        absurd cc

-- a spelling spells itself
pub spelling_kept : (bytes text : List ℕ) → spelling_of bytes ≡ Some text → IsUtf8 text → spelling_of text ≡ Some text
unfolding spelling_of metadata_of
spelling_kept bytes text spelling utf8 =
    let found = metadata_read bytes (json_of bytes) refl text spelling in
    let d = found.0 in
    let whole = (and_parts (is_some (as_object d)) _ found.2).1 in
    let none = not_true (has_float d) (and_parts (not (has_float d)) _ whole).0 in
    let back : read text ≡ Some d = ap read found.3 ∙ printed d (read_sound bytes d found.1) none (depth-read bytes d found.1) in
    spells_itself d text utf8 found.2 (λ _. found.3) (λ _. back)
