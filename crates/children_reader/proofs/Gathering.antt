-- What is made of an object's members, one after another, is what is said of them all.
use Rattle.std.proofs.Common.{◌≡◌, ◌≢◌, ◌⊎◌, inl, inr, ℕ, zero, suc, ◌+◌, ◌<◌, ◌≤◌, Bool, true, false, cond, List, [], ◌∷◌, ◌++◌, length, get_or, Option, Some, None, is_some, Result, Ok, Err, refl, sym, ap, subst, ◌∙◌, arith, append-nil}
use Rattle.std.specs.Prelude.{◌↔◌, bytes_eq, Any, Contains, IsPermutation, count_by}
use Rattle.std.specs.List.{AllZip}
use Rattle.std.specs.Cmp.Lexicographic.{slice_cmp}
use Rattle.std.specs.Ordering.{nat_cmp, is_eq, is_lt, ordering_reverse}
use Rattle.std.specs.declared.cmp.Ordering.{Ordering}
use Rattle.std.specs.declared.cmp.Ordering.TheVariants.{Less, Equal, Greater}
use Rattle.std.proofs.lemmas.Bool.{cond_both}
use Rattle.std.proofs.lemmas.Cmp.{nat_list_cmp_total, tied_itself, alike_right}
use Rattle.std.proofs.lemmas.List.Sorted.{IsPermutation-refl, IsPermutation-sym, IsPermutation-trans, IsPermutation-cons, IsPermutation-append_left, IsPermutation-middle, Contains-permutation, sum_by-IsPermutation}
use Rattle.std.proofs.lemmas.List.Sums.{sum_by-cons, sum_by-append}
use Rattle.std.proofs.lemmas.Map.Text.{is_eq-slice_cmp}
use Rattle.std.proofs.lemmas.Slice.Eq.{bytes_eq-Decides}
use Rattle.serde_json.specs.Data.{Data, object, Members, no_members, member}
use Rattle.serde_json.specs.Find.{as_object}
use Rattle.dir_codec.specs.Names.{IsAbove}
use Rattle.json_spelling.specs.Metadata.{json_of}
use Rattle.dir_codec.specs.Find.{child_named}
use Rattle.children_reader.specs.Children.{then_make, inserted, with_entry, entry_made, making_after, making, made}
use Rattle.children_reader.specs.MadeOf.{members_listed, IsEntryOf, IsMemberFault, RiseAbove, AreOfMembers, IsFaultAfter, RefusesMembers, AreMadeOf, RefusesJson}
use Rattle.dir_codec.specs.declared.entry.Entry.{Entry}
use Rattle.dir_codec.specs.declared.fault.DirFault.{DirFault}
use Rattle.dir_codec.specs.declared.fault.DirFault.TheVariants.{NotJson, BadShape, SameName}
use Rattle.children_reader.proofs.Making.{named_test, found_in, make_next, make_fault, no_json, no_object, of_members, made_are}
use Rattle.dir_codec.proofs.Refused.{CapsAreDecided}
use Rattle.children_reader.proofs.OneMember.{object_of, Told, told, is_made, is_refused}

-- ---- how often a name stands among entries

abbrev is_named : List ℕ → Entry → Bool
is_named name entry = bytes_eq entry.name name

abbrev times : List ℕ → List Entry → ℕ
times name entries = count_by (is_named name) entries

times-cons : (name : List ℕ) (entry : Entry) (more : List Entry) → times name (entry ∷ more) ≡ cond (is_named name entry) 1 0 + times name more
times-cons name entry more = sum_by-cons (λ e. cond (is_named name e) 1 0) entry more

named_itself : (entry : Entry) → is_named entry.name entry ≡ true
named_itself entry = (bytes_eq-Decides entry.name entry.name).1 refl

test_of : (name : List ℕ) (entry : Entry) → is_named name entry ≡ is_eq (slice_cmp nat_cmp entry.name name)
test_of name entry = sym (is_eq-slice_cmp entry.name name)

-- no entry above a name has one that isn't above it
none_below : (name low : List ℕ) (entries : List Entry) → RiseAbove low entries → slice_cmp nat_cmp low name ≢ Less → times name entries ≡ 0
none_below name low [] rise other = refl
none_below name low (entry ∷ more) rise other = at (slice_cmp nat_cmp entry.name name) refl (none_below name entry.name more rise.1)
  where
    at : (o : Ordering) → slice_cmp nat_cmp entry.name name ≡ o → (slice_cmp nat_cmp entry.name name ≢ Less → times name more ≡ 0) → times name (entry ∷ more) ≡ 0
    at Less is rest = absurd (other (nat_list_cmp_total.trans low entry.name name rise.0 is))
    at Equal is rest = absurd (other (sym (alike_right nat_list_cmp_total entry.name name low is) ∙ rise.0))
    at Greater is rest =
        let none = rest (λ less. let both : Greater ≡ Less = sym is ∙ less in cc) in
        times-cons name entry more ∙ ap (λ b. cond b 1 0 + times name more) (test_of name entry ∙ ap is_eq is) ∙ ap (λ n. 0 + n) none

-- among entries in order each name stands once at most
once : (name low : List ℕ) (entries : List Entry) → RiseAbove low entries → times name entries ≤ 1
once name low [] rise = omega arith
once name low (entry ∷ more) rise = at (slice_cmp nat_cmp entry.name name) refl (once name entry.name more rise.1)
  where
    other : (o : Ordering) → slice_cmp nat_cmp entry.name name ≡ o → is_eq o ≡ false → times name more ≤ 1 → times name (entry ∷ more) ≤ 1
    other o is apart rest =
        let first : times name (entry ∷ more) ≡ 0 + times name more = times-cons name entry more ∙ ap (λ b. cond b 1 0 + times name more) (test_of name entry ∙ ap is_eq is ∙ apart) in
        omega arith

    at : (o : Ordering) → slice_cmp nat_cmp entry.name name ≡ o → times name more ≤ 1 → times name (entry ∷ more) ≤ 1
    at Less is rest = other Less is refl rest
    at Equal is rest =
        let none = none_below name entry.name more rise.1 (λ less. let both : Equal ≡ Less = sym is ∙ less in cc) in
        let first : times name (entry ∷ more) ≡ 1 + times name more = times-cons name entry more ∙ ap (λ b. cond b 1 0 + times name more) (test_of name entry ∙ ap is_eq is) in
        omega arith
    at Greater is rest = other Greater is refl rest

absent_at : (b : Bool) (entry : Entry) (n : ℕ) (o : Option Entry) → cond b 1 0 + n ≡ 0 → (n ≡ 0 → o ≡ None) → cond b (Some entry) o ≡ None
absent_at true entry n o is rest = absurd (omega arith)
absent_at false entry n o is rest = rest (omega arith)

-- a name that stands nowhere isn't found
absent : (name : List ℕ) (entries : List Entry) → times name entries ≡ 0 → child_named name entries ≡ None
unfolding child_named
absent name [] none = refl
absent name (entry ∷ more) none = absent_at (is_named name entry) entry (times name more) _ (sym (times-cons name entry more) ∙ none) (absent name more)

-- a name is found just where it is some entry's
found_at : (name : List ℕ) (entry : Entry) (more : List Entry) (found : Entry) (b : Bool) → is_named name entry ≡ b → cond b (Some entry) (child_named name more) ≡ Some found
    → (child_named name more ≡ Some found → Any (λ other. other.name ≡ name) more) → Any (λ other. other.name ≡ name) (entry ∷ more)
found_at name entry more found true is at rest = (0, entry, omega arith, refl, (bytes_eq-Decides entry.name name).0 is)
found_at name entry more found false is at rest = let a = rest at in (suc a.0, a.1, omega (arith, a.2), a.3, a.4)

stands : (name : List ℕ) (entries : List Entry) (found : Entry) → child_named name entries ≡ Some found → Any (λ other. other.name ≡ name) entries
unfolding child_named
stands name [] found is = absurd cc
stands name (entry ∷ more) found is = found_at name entry more found (is_named name entry) refl is (stands name more found)

some_either : (b : Bool) (entry : Entry) (o : Option Entry) → is_some o ≡ true → is_some (cond b (Some entry) o) ≡ true
some_either true entry o some = refl
some_either false entry o some = some

is_found : (name : List ℕ) (entries : List Entry) (k : ℕ) (x : Entry) → k < length entries → get_or entries k x ≡ x → x.name ≡ name → is_some (child_named name entries) ≡ true
unfolding child_named
is_found name [] k x within at is = absurd (omega arith)
is_found name (entry ∷ more) zero x within at is =
    let test : is_named name entry ≡ true = (bytes_eq-Decides entry.name name).1 (ap (λ e. e.name) at ∙ is) in
    rw test refl
is_found name (entry ∷ more) (suc k) x within at is = some_either (is_named name entry) entry _ (is_found name more k x (omega arith) at is)

-- ---- entries in order

not_itself : (name : List ℕ) → slice_cmp nat_cmp name name ≢ Less
not_itself name less = let both : Equal ≡ Less = sym (tied_itself nat_list_cmp_total name) ∙ less in cc

abbrev In : Entry → List Entry → Type 0
In x [] = ⊥
In x (y ∷ ys) = (y ≡ x) ⊎ In x ys

is_in : (entries : List Entry) (x : Entry) (k : ℕ) → k < length entries → get_or entries k x ≡ x → In x entries
is_in [] x k within at = absurd (omega arith)
is_in (entry ∷ more) x zero within at = inl at
is_in (entry ∷ more) x (suc k) within at = inr (is_in more x k (omega arith) at)

contained : (entries : List Entry) (x : Entry) → In x entries → Contains entries x
contained [] x is = absurd is
contained (entry ∷ more) x (inl is) = (0, omega arith, is)
contained (entry ∷ more) x (inr is) = let c = contained more x is in (suc c.0, omega (arith, c.1), c.2)

is_above : (low : List ℕ) (entries : List Entry) (x : Entry) → RiseAbove low entries → In x entries → slice_cmp nat_cmp low x.name ≡ Less
is_above low [] x rise is = absurd is
is_above low (entry ∷ more) x rise (inl is) = subst (λ e. slice_cmp nat_cmp low e.name ≡ Less) is rise.0
is_above low (entry ∷ more) x rise (inr is) = nat_list_cmp_total.trans low entry.name x.name rise.0 (is_above entry.name more x rise.1 is)

first_same : (a b : Entry) (xs ys : List Entry) → RiseAbove a.name xs → RiseAbove b.name ys → (b ≡ a) ⊎ In a ys → (a ≡ b) ⊎ In b xs → a ≡ b
first_same a b xs ys up other (inl same) g = sym same
first_same a b xs ys up other (inr later) (inl same) = same
first_same a b xs ys up other (inr later) (inr before) =
    absurd (not_itself a.name (nat_list_cmp_total.trans a.name b.name a.name (is_above a.name xs b up before) (is_above b.name ys a other later)))

rest_in : (a b x : Entry) (xs ys : List Entry) → RiseAbove a.name xs → a ≡ b → In x xs → (b ≡ x) ⊎ In x ys → In x ys
rest_in a b x xs ys up same is (inl first) = absurd (not_itself a.name (subst (λ e. slice_cmp nat_cmp a.name e.name ≡ Less) (sym (same ∙ first)) (is_above a.name xs x up is)))
rest_in a b x xs ys up same is (inr later) = later

-- two lists in order with the same entries are one
same_lists : (low : List ℕ) (xs ys : List Entry) → RiseAbove low xs → RiseAbove low ys → ((x : Entry) → In x xs → In x ys) → ((x : Entry) → In x ys → In x xs) → xs ≡ ys
same_lists low [] [] up other f g = refl
same_lists low [] (b ∷ ys) up other f g = absurd (g b (inl refl))
same_lists low (a ∷ xs) [] up other f g = absurd (f a (inl refl))
same_lists low (a ∷ xs) (b ∷ ys) up other f g =
    let first : a ≡ b = first_same a b xs ys up.1 other.1 (f a (inl refl)) (g b (inl refl)) in
    let rest : xs ≡ ys = same_lists a.name xs ys up.1 (subst (λ e. RiseAbove e.name ys) (sym first) other.1)
    (λ x is. rest_in a b x xs ys up.1 first is (f x (inr is))) (λ x is. rest_in b a x ys xs other.1 (sym first) is (g x (inr is))) in
    cc

same_order : (xs ys : List Entry) → RiseAbove [] xs → RiseAbove [] ys → IsPermutation xs ys → xs ≡ ys
same_order xs ys up other same =
    same_lists [] xs ys up other
    (λ x is. let c = Contains-permutation xs ys x same (contained xs x is) in is_in ys x c.0 c.1 c.2)
    (λ x is. let c = Contains-permutation ys xs x (IsPermutation-sym xs ys same) (contained ys x is) in is_in xs x c.0 c.1 c.2)

-- ---- one more entry

inserted_at : (low : List ℕ) (entry other : Entry) (more : List Entry) (o : Ordering) → slice_cmp nat_cmp entry.name other.name ≡ o → is_eq o ≡ false → RiseAbove low (other ∷ more) → IsAbove entry.name low
    → (IsAbove entry.name other.name → RiseAbove other.name (inserted entry more)) → RiseAbove low (cond (is_lt o) (entry ∷ other ∷ more) (other ∷ inserted entry more))
inserted_at low entry other more Less is apart up above rest = (above, (is, up.1))
inserted_at low entry other more Equal is apart up above rest = absurd cc
inserted_at low entry other more Greater is apart up above rest = (up.0, rest (nat_list_cmp_total.antisymm other.name entry.name ∙ ap ordering_reverse is))

-- entries stay in order
inserted_rise : (low : List ℕ) (entry : Entry) (entries : List Entry) → RiseAbove low entries → IsAbove entry.name low → child_named entry.name entries ≡ None → RiseAbove low (inserted entry entries)
unfolding child_named
inserted_rise low entry [] up above none = (above, tt)
inserted_rise low entry (other ∷ more) up above none =
    let parts = found_in other entry.name (bytes_eq other.name entry.name) (child_named entry.name more) none in
    inserted_at low entry other more (slice_cmp nat_cmp entry.name other.name) refl (sym (named_test entry.name other.name) ∙ parts.0) up above
    (λ higher. inserted_rise other.name entry more up.1 higher parts.1)

-- one more entry stands among them
inserted_same : (entry : Entry) (entries : List Entry) → IsPermutation (entry ∷ entries) (inserted entry entries)
inserted_same entry [] = IsPermutation-refl (entry ∷ [])
inserted_same entry (other ∷ more) =
    cond_both (is_lt (slice_cmp nat_cmp entry.name other.name)) (entry ∷ other ∷ more) (other ∷ inserted entry more) (λ es. IsPermutation (entry ∷ other ∷ more) es)
    (λ _. IsPermutation-refl (entry ∷ other ∷ more))
    (λ _. IsPermutation-trans (entry ∷ other ∷ more) (other ∷ entry ∷ more) (other ∷ inserted entry more)
    (IsPermutation-sym (other ∷ entry ∷ more) (entry ∷ other ∷ more) (IsPermutation-middle (other ∷ []) entry more))
    (IsPermutation-cons other (entry ∷ more) (inserted entry more) (inserted_same entry more)))

moved : (acc : List Entry) (entry : Entry) (found : List Entry) → IsPermutation (acc ++ (entry ∷ found)) (inserted entry acc ++ found)
moved acc entry found =
    IsPermutation-trans (acc ++ (entry ∷ found)) (entry ∷ (acc ++ found)) (inserted entry acc ++ found)
    (IsPermutation-middle acc entry found) (IsPermutation-append_left found (entry ∷ acc) (inserted entry acc) (inserted_same entry acc))

above_none : (name : List ℕ) → name ≢ [] → slice_cmp nat_cmp [] name ≡ Less
above_none [] some = absurd (some refl)
above_none (b ∷ bs) some = refl

entry_above : (key : List ℕ) (node : Data) (entry : Entry) → IsEntryOf key node entry → IsAbove entry.name []
entry_above key node entry of = above_none entry.name (λ none. of.cap.named (sym of.name ∙ none))

with_new : (acc : List Entry) (entry : Entry) → child_named entry.name acc ≡ None → with_entry acc entry ≡ Ok (inserted entry acc)
unfolding with_entry
with_new acc entry none = rw none refl

with_old : (acc : List Entry) (entry : Entry) → is_some (child_named entry.name acc) ≡ true → with_entry acc entry ≡ Err SameName
unfolding with_entry
with_old acc entry some = rw some refl

make_none : (acc : List Entry) (key : List ℕ) (node : Data) (more : Members) (fault : DirFault) → entry_made key node ≡ Err fault → making_after acc (member key node more) ≡ Err fault
make_none acc key node more fault is = ap (λ r. then_make (λ all. making_after all more) (then_make (with_entry acc) r)) is

-- ---- what the definition makes is as it is said

abbrev Of : List ℕ × Data → Entry → Type 0
Of m entry = IsEntryOf m.0 m.1 entry

-- members without a fault stand before the one that has it, after entries that stood already
record Stops (acc : List Entry) (fault : DirFault) (members : List (List ℕ × Data)) : Type 0 where
  before : List (List ℕ × Data)
  key : List ℕ
  node : Data
  after : List (List ℕ × Data)
  are : members ≡ before ++ ((key, node) ∷ after)
  found : List Entry
  entries : List Entry
  each : AllZip Of before found
  same : IsPermutation (acc ++ found) entries
  rise : RiseAbove [] entries
  first : IsFaultAfter fault entries key node

abbrev Gathered : List Entry → List (List ℕ × Data) → Result (List Entry) DirFault → Type 0
Gathered acc members (Ok entries) = (found : List Entry) × AllZip Of members found × IsPermutation (acc ++ found) entries × RiseAbove [] entries
Gathered acc members (Err fault) = Stops acc fault members

more_gathered : (acc : List Entry) (m : List ℕ × Data) (more : List (List ℕ × Data)) (entry : Entry) → Of m entry → (r : Result (List Entry) DirFault) → Gathered (inserted entry acc) more r → Gathered acc (m ∷ more) r
more_gathered acc m more entry of (Ok entries) g =
    (entry ∷ g.0, (of, g.1), IsPermutation-trans (acc ++ (entry ∷ g.0)) (inserted entry acc ++ g.0) entries (moved acc entry g.0) g.2, g.3)
more_gathered acc m more entry of (Err fault) s =
    record {
      before = m ∷ s.before;
      key = s.key;
      node = s.node;
      after = s.after;
      are = ap (λ ms. m ∷ ms) s.are;
      found = entry ∷ s.found;
      entries = s.entries;
      each = (of, s.each);
      same = IsPermutation-trans (acc ++ (entry ∷ s.found)) (inserted entry acc ++ s.found) s.entries (moved acc entry s.found) s.same;
      rise = s.rise;
      first = s.first;
    }

stops_here : (acc : List Entry) → RiseAbove [] acc → (fault : DirFault) (key : List ℕ) (node : Data) (after : List (List ℕ × Data)) → IsFaultAfter fault acc key node → Stops acc fault ((key, node) ∷ after)
stops_here acc up fault key node after first =
    record {
      before = [];
      key = key;
      node = node;
      after = after;
      are = refl;
      found = [];
      entries = acc;
      each = tt;
      same = subst (λ es. IsPermutation es acc) (sym (append-nil acc)) (IsPermutation-refl acc);
      rise = up;
      first = first;
    }

alone : (fault : DirFault) (entries : List Entry) (key : List ℕ) (node : Data) → IsMemberFault fault key node → IsFaultAfter fault entries key node
alone SameName entries key node of = absurd of
alone other entries key node of = of

gathered : CapsAreDecided → (acc : List Entry) → RiseAbove [] acc → (ms : Members) → Gathered acc (members_listed ms) (making_after acc ms)
gathered caps acc up no_members = ([], tt, subst (λ es. IsPermutation es acc) (sym (append-nil acc)) (IsPermutation-refl acc), up)
gathered caps acc up (member key node more) = by_entry (λ all rise. gathered caps all rise more) (entry_made key node) refl (told key node caps)
  where
    by_name : ((all : List Entry) → RiseAbove [] all → Gathered all (members_listed more) (making_after all more)) → (entry : Entry) → entry_made key node ≡ Ok entry → IsEntryOf key node entry
        → (o : Option Entry) → child_named entry.name acc ≡ o → Gathered acc ((key, node) ∷ members_listed more) (making_after acc (member key node more))
    by_name rest entry is of (Some other) at =
        subst (Gathered acc ((key, node) ∷ members_listed more)) (sym (make_fault acc key node more entry SameName is (with_old acc entry (ap is_some at))))
        (stops_here acc up SameName key node (members_listed more) (entry, of, stands entry.name acc other at))
    by_name rest entry is of None at =
        subst (Gathered acc ((key, node) ∷ members_listed more)) (sym (make_next acc key node more entry (inserted entry acc) is (with_new acc entry at)))
        (more_gathered acc (key, node) (members_listed more) entry of (making_after (inserted entry acc) more)
        (rest (inserted entry acc) (inserted_rise [] entry acc up (entry_above key node entry of) at)))

    by_entry : ((all : List Entry) → RiseAbove [] all → Gathered all (members_listed more) (making_after all more)) → (r : Result Entry DirFault) → entry_made key node ≡ r → Told key node r
        → Gathered acc ((key, node) ∷ members_listed more) (making_after acc (member key node more))
    by_entry rest (Ok entry) is of = by_name rest entry is of (child_named entry.name acc) refl
    by_entry rest (Err fault) is of =
        subst (Gathered acc ((key, node) ∷ members_listed more)) (sym (make_none acc key node more fault is))
        (stops_here acc up fault key node (members_listed more) (alone fault acc key node of))

-- ---- what is said is what the definition makes

-- the definition goes on from those entries with the members that are left
abbrev Passes : List Entry → List Entry → Members → List (List ℕ × Data) → Type 0
Passes acc entries ms rest = (after : Members) × (members_listed after ≡ rest) × (making_after acc ms ≡ making_after entries after)

not_yet : (acc : List Entry) (entry : Entry) (found entries : List Entry) → IsPermutation (acc ++ (entry ∷ found)) entries → RiseAbove [] entries → child_named entry.name acc ≡ None
not_yet acc entry found entries same up =
    let name = entry.name in
    let all : times name entries ≡ times name (acc ++ (entry ∷ found)) = sum_by-IsPermutation (λ e. cond (is_named name e) 1 0) (acc ++ (entry ∷ found)) entries same in
    let parts : times name (acc ++ (entry ∷ found)) ≡ times name acc + times name (entry ∷ found) = sum_by-append (λ e. cond (is_named name e) 1 0) acc (entry ∷ found) in
    let first : times name (entry ∷ found) ≡ 1 + times name found = times-cons name entry found ∙ ap (λ b. cond b 1 0 + times name found) (named_itself entry) in
    let most : times name entries ≤ 1 = once name [] entries up in
    absent name acc (counted (times name entries) (times name (acc ++ (entry ∷ found))) (times name acc) (times name (entry ∷ found)) (times name found) all parts first most)
  where
    counted : (a b c d e : ℕ) → a ≡ b → b ≡ c + d → d ≡ 1 + e → a ≤ 1 → c ≡ 0
    counted a b c d e all parts first most = omega arith

passes : CapsAreDecided → (acc : List Entry) → RiseAbove [] acc → (before rest : List (List ℕ × Data)) (ms : Members) (found entries : List Entry) → members_listed ms ≡ before ++ rest → AllZip Of before found
    → IsPermutation (acc ++ found) entries → RiseAbove [] entries → Passes acc entries ms rest
passes caps acc up [] rest ms [] entries is each same rise =
    let one : acc ≡ entries = same_order acc entries up rise (subst (λ es. IsPermutation es entries) (append-nil acc) same) in
    (ms, is, ap (λ es. making_after es ms) one)
passes caps acc up [] rest ms (entry ∷ found) entries is each same rise = absurd each
passes caps acc up (m ∷ before) rest ms [] entries is each same rise = absurd each
passes caps acc up (m ∷ before) rest no_members (entry ∷ found) entries is each same rise = absurd cc
passes caps acc up (m ∷ before) rest (member key node more) (entry ∷ found) entries is each same rise =
    let first : m ≡ (key, node) = cc in
    let others : members_listed more ≡ before ++ rest = cc in
    let of : IsEntryOf key node entry = subst (λ m. Of m entry) first each.0 in
    let none = not_yet acc entry found entries same rise in
    let next = make_next acc key node more entry (inserted entry acc) (is_made key node caps entry of) (with_new acc entry none) in
    let go = passes caps (inserted entry acc) (inserted_rise [] entry acc up (entry_above key node entry of) none) before rest more found entries others each.1
    (IsPermutation-trans (inserted entry acc ++ found) (acc ++ (entry ∷ found)) entries (IsPermutation-sym (acc ++ (entry ∷ found)) (inserted entry acc ++ found) (moved acc entry found)) same) rise in
    (go.0, go.1, next ∙ go.2)

no_more : (entries : List Entry) (ms : Members) → members_listed ms ≡ [] → making_after entries ms ≡ Ok entries
no_more entries no_members is = refl
no_more entries (member key node more) is = absurd cc

members_made : CapsAreDecided → (entries : List Entry) (members : Members) → AreOfMembers entries (members_listed members) → making_after [] members ≡ Ok entries
members_made caps entries members of =
    let all = passes caps [] tt (members_listed members) [] members of.found entries (sym (append-nil (members_listed members))) of.each of.same of.rise in
    all.2 ∙ no_more entries all.0 all.1

after_fault : CapsAreDecided → (fault : DirFault) (entries : List Entry) (key : List ℕ) (node : Data) (more : Members) → IsFaultAfter fault entries key node → making_after entries (member key node more) ≡ Err fault
after_fault caps SameName entries key node more of =
    make_fault entries key node more of.0 SameName (is_made key node caps of.0 of.1) (with_old entries of.0 (is_found of.0.name entries of.2.0 of.2.1 of.2.2 of.2.3 of.2.4))
after_fault caps other entries key node more of = make_none entries key node more other (is_refused key node caps other of)

fault_next : CapsAreDecided → (fault : DirFault) (entries : List Entry) (key : List ℕ) (node : Data) (after : List (List ℕ × Data)) (ms : Members) → members_listed ms ≡ (key, node) ∷ after → IsFaultAfter fault entries key node → making_after entries ms ≡ Err fault
fault_next caps fault entries key node after no_members is of = absurd cc
fault_next caps fault entries key node after (member k n more) is of =
    let first : ◌≡◌ {A = List ℕ × Data} (key, node) (k, n) = cc in
    after_fault caps fault entries k n more (subst (λ m. IsFaultAfter fault entries m.0 m.1) first of)

members_refused : CapsAreDecided → (fault : DirFault) (members : Members) → RefusesMembers fault (members_listed members) → making_after [] members ≡ Err fault
members_refused caps fault members of =
    let all = passes caps [] tt of.before ((of.key, of.node) ∷ of.after) members of.made.found of.entries of.are of.made.each of.made.same of.made.rise in
    all.2 ∙ fault_next caps fault of.entries of.key of.node of.after all.0 all.1 of.first

-- ---- the whole

refuses : (acc : List Entry) → acc ≡ [] → (fault : DirFault) (members : List (List ℕ × Data)) → Stops acc fault members → RefusesMembers fault members
refuses acc none fault members s =
    record {
      before = s.before;
      key = s.key;
      node = s.node;
      after = s.after;
      are = s.are;
      entries = s.entries;
      made = record { found = s.found; each = s.each; same = subst (λ es. IsPermutation (es ++ s.found) s.entries) none s.same; rise = s.rise };
      first = s.first;
    }

-- what is made of JSON
abbrev Made : List ℕ → Result (List Entry) DirFault → Type 0
Made json (Ok entries) = AreMadeOf entries json
Made json (Err fault) = RefusesJson fault json

refuses_json : (fault : DirFault) (json : List ℕ) (members : Members) → json_of json ≡ Some (object members) → RefusesMembers fault (members_listed members) → RefusesJson fault json
refuses_json NotJson json members is of = absurd of.first
refuses_json BadShape json members is of = inr (members, is, of)
refuses_json other json members is of = (members, is, of)

made_of : (json : List ℕ) (members : Members) → json_of json ≡ Some (object members) → (r : Result (List Entry) DirFault) → Gathered [] (members_listed members) r → Made json r
made_of json members is (Ok entries) g = (members, is, record { found = g.0; each = g.1; same = g.2; rise = g.3 })
made_of json members is (Err fault) s = refuses_json fault json members is (refuses [] refl fault (members_listed members) s)

made_object : CapsAreDecided → (json : List ℕ) (d : Data) → json_of json ≡ Some d → (o : Option Members) → as_object d ≡ o → Made json (making json)
made_object caps json d is None none = subst (Made json) (sym (no_object json d is none)) (inl (d, is, none))
made_object caps json d is (Some members) some =
    subst (Made json) (sym (of_members json d members is some)) (made_of json members (is ∙ ap Some (object_of d members some)) (making_after [] members) (gathered caps [] tt members))

made_json : CapsAreDecided → (json : List ℕ) → (o : Option Data) → json_of json ≡ o → Made json (making json)
made_json caps json None none = subst (Made json) (sym (no_json json none)) none
made_json caps json (Some d) is = made_object caps json d is (as_object d) refl

is_refused_json : CapsAreDecided → (fault : DirFault) (json : List ℕ) → RefusesJson fault json → making json ≡ Err fault
is_refused_json caps NotJson json none = no_json json none
is_refused_json caps BadShape json (inl of) = no_object json of.0 of.1 of.2
is_refused_json caps BadShape json (inr of) = of_members json (object of.0) of.0 of.1 refl ∙ members_refused caps BadShape of.0 of.2
is_refused_json caps other json of = of_members json (object of.0) of.0 of.1 refl ∙ members_refused caps other of.0 of.2

-- the entries that JSON makes are those of its members
pub entries_are : CapsAreDecided → (entries : List Entry) (json : List ℕ) → (made json ≡ Some entries) ↔ AreMadeOf entries json
entries_are caps entries json = (
  λ is. subst (Made json) ((made_are entries json).0 is) (made_json caps json (json_of json) refl),
  λ of. (made_are entries json).1 (of_members json (object of.0) of.0 of.1 refl ∙ members_made caps entries of.0 of.2),
)

-- JSON that makes nothing is refused for the first member that is at fault
pub faults_are : CapsAreDecided → (fault : DirFault) (json : List ℕ) → (making json ≡ Err fault) ↔ RefusesJson fault json
faults_are caps fault json =
    (λ is. subst (Made json) is (made_json caps json (json_of json) refl), λ of. is_refused_json caps fault json of)
