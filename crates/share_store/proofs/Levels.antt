-- Shares in two levels, as the map that they stand for.
use Rattle.std.proofs.Common.{◌≡◌, ℕ, suc, Bool, true, false, cond, ◌&&◌, List, [], ◌∷◌, ◌++◌, map, Option, Some, None, All, refl, sym, ap, ◌∙◌, arith, nat_eq, eqb-true, eq-eqb, Bor}
use Rattle.std.specs.List.{AllByRecursion}
use Rattle.std.specs.Option.{option_map, option_copied}
use Rattle.std.specs.declared.cmp.Ordering.{Ordering}
use Rattle.std.specs.declared.cmp.Ordering.TheVariants.{Less, Equal, Greater}
use Rattle.std.specs.Ordering.{nat_cmp, is_lt, is_eq, eq_by_cmp, ordering_then}
use Rattle.std.specs.Cmp.{tied_itself, eq_by_cmp_equiv}
use Rattle.std.specs.Cmp.Lexicographic.{slice_cmp, pointwise, nat_list_cmp_total}
use Rattle.std.specs.Cmp.{nat_cmp_total, both_ways}
use Rattle.std.specs.List.Sorted.{IsStrictlySortedBy}
use Rattle.std.specs.Map.{lookup, keys_of, values_of}
use Rattle.std.specs.BTreeMap as tree
use Rattle.std.specs.BTreeMap.{is_at}
use Rattle.std.proofs.lemmas.Map.Keys.{sorted_head, sorted_tail}
use Rattle.std.proofs.lemmas.Map.Lookups.{exact_bytes, exact_unsigned}
use Rattle.std.proofs.lemmas.Map.Views.{tells_apart}
use Rattle.std.specs.FinMap.{find, get, entries, empty, get-empty, insert, remove, from_sorted, is_sorted, get-insert, get-remove, get-from_sorted, same_map}
use Rattle.std.specs.FinMap.Entries.{below_all}
use Rattle.share_store.specs.Shares.{ShareKey, ShareEntry, key_cmp}
use Rattle.share_store.specs.Numbers.{of_index, numbers_for}
use Rattle.share_store.specs.Stored.{Numbers, Indexes, entries_at, entries_under, shares_in, IsKept}
use Rattle.share_store.specs.MapLaws.{key_cmp_total, key_cmp_exact, is_T, entries_kept}
use Rattle.share_store.proofs.Sorted.{both, equal, find_below}

-- how storage indexes compare
abbrev pub by_bytes : List ℕ → List ℕ → Ordering
by_bytes = slice_cmp nat_cmp

pub same_bytes : (x : List ℕ) → by_bytes x x ≡ Equal
same_bytes x = tied_itself nat_list_cmp_total x

-- what stands at a key
abbrev pub at_number : {B : Type 0} → ℕ → Option (Numbers B) → Option B
at_number number None = None
at_number number (Some numbers) = tree.get nat_cmp numbers number

abbrev pub get_in : {B : Type 0} → Indexes B → ShareKey → Option B
get_in indexes key = at_number key.1 (tree.get by_bytes indexes key.0)

module _ {B : Type 0} (bytes_in : B → List ℕ) where
  -- ---- the entries rise

  below_here : (index : List ℕ) (number : ℕ) (ns : List (ℕ × B)) (rest : List ShareEntry) → AllByRecursion (λ y. nat_cmp number y ≡ Less) (keys_of ns) → below_all key_cmp (index, number) rest ≡ true
      → below_all key_cmp (index, number) (entries_at bytes_in index ns ++ rest) ≡ true
  below_here index number [] rest rise h = h
  below_here index number (n ∷ ns) rest rise h =
      both _ _ (ap is_lt (ap (λ o. ordering_then o (nat_cmp number n.0)) (same_bytes index) ∙ rise.0)) (below_here index number ns rest rise.1 h)

  below_there : (index other : List ℕ) (number : ℕ) (ns : List (ℕ × B)) (rest : List ShareEntry) → by_bytes index other ≡ Less → below_all key_cmp (index, number) rest ≡ true
      → below_all key_cmp (index, number) (entries_at bytes_in other ns ++ rest) ≡ true
  below_there index other number [] rest less h = h
  below_there index other number (n ∷ ns) rest less h =
      both _ _ (ap is_lt (ap (λ o. ordering_then o (nat_cmp number n.0)) less)) (below_there index other number ns rest less h)

  below_rest : (index : List ℕ) (number : ℕ) (es : List (List ℕ × Numbers B)) → AllByRecursion (λ y. by_bytes index y ≡ Less) (keys_of es) → below_all key_cmp (index, number) (entries_under bytes_in es) ≡ true
  below_rest index number [] rise = refl
  below_rest index number (e ∷ es) rise = below_there index e.0 number e.1.entries (entries_under bytes_in es) rise.0 (below_rest index number es rise.1)

  sorted_here : (index : List ℕ) (ns : List (ℕ × B)) (rest : List ShareEntry) → IsStrictlySortedBy nat_cmp (keys_of ns) → is_sorted key_cmp rest ≡ true → ((number : ℕ) → below_all key_cmp (index, number) rest ≡ true)
      → is_sorted key_cmp (entries_at bytes_in index ns ++ rest) ≡ true
  sorted_here index [] rest rise h below = h
  sorted_here index (n ∷ ns) rest rise h below =
      both _ _ (below_here index n.0 ns rest (sorted_head nat_cmp n.0 (keys_of ns) rise) (below n.0)) (sorted_here index ns rest (sorted_tail nat_cmp n.0 (keys_of ns) rise) h below)

  sorted_under : (es : List (List ℕ × Numbers B)) → IsStrictlySortedBy by_bytes (keys_of es) → All (λ (ns : Numbers B). tree.IsOrdered nat_cmp ns) (values_of es) → is_sorted key_cmp (entries_under bytes_in es) ≡ true
  sorted_under [] rise all = refl
  sorted_under (e ∷ es) rise all =
      sorted_here e.0 e.1.entries (entries_under bytes_in es) (all 0 e.1 (omega arith))
      (sorted_under es (sorted_tail by_bytes e.0 (keys_of es) rise) (λ k d lt. all (suc k) d (omega arith)))
      (λ number. below_rest e.0 number es (sorted_head by_bytes e.0 (keys_of es) rise))

  pub sorted_in : (indexes : Indexes B) → IsKept indexes → is_sorted key_cmp (entries_under bytes_in indexes.entries) ≡ true
  sorted_in indexes kept = sorted_under indexes.entries kept.ordered kept.numbers

  pub entries_in : (indexes : Indexes B) → IsKept indexes → entries (shares_in bytes_in indexes) ≡ entries_under bytes_in indexes.entries
  entries_in indexes kept = entries_kept _ (sorted_in indexes kept)

  -- ---- what is found

  find_there : (key : ShareKey) (other : List ℕ) (ns : List (ℕ × B)) (rest : List ShareEntry) → is_eq (by_bytes key.0 other) ≡ false → find key_cmp key (entries_at bytes_in other ns ++ rest) ≡ find key_cmp key rest
  find_there key other [] rest apart = refl
  find_there key other (n ∷ ns) rest apart =
      ap (λ b. cond b (Some (bytes_in n.1)) (find key_cmp key (entries_at bytes_in other ns ++ rest))) (other_key (by_bytes key.0 other) (nat_cmp key.1 n.0) apart)
      ∙ find_there key other ns rest apart
    where
      other_key : (o p : Ordering) → is_eq o ≡ false → is_eq (ordering_then o p) ≡ false
      other_key Less p h = refl
      other_key Equal p h = cc
      other_key Greater p h = refl

  find_here : (index : List ℕ) (number : ℕ) (ns : List (ℕ × B)) (rest : List ShareEntry) → find key_cmp (index, number) rest ≡ None
      → find key_cmp (index, number) (entries_at bytes_in index ns ++ rest) ≡ option_map bytes_in (lookup (is_at (nat_cmp number)) ns)
  find_here index number [] rest none = none
  find_here index number (n ∷ ns) rest none =
      ap (λ o. cond (is_eq (ordering_then o (nat_cmp number n.0))) (Some (bytes_in n.1)) (find key_cmp (index, number) (entries_at bytes_in index ns ++ rest))) (same_bytes index)
      ∙ ap (cond (is_eq (nat_cmp number n.0)) (Some (bytes_in n.1))) (find_here index number ns rest none)
      ∙ by_case (is_eq (nat_cmp number n.0))
    where
      by_case : (b : Bool) → cond b (Some (bytes_in n.1)) (option_map bytes_in (lookup (is_at (nat_cmp number)) ns)) ≡ option_map bytes_in (cond b (Some n.1) (lookup (is_at (nat_cmp number)) ns))
      by_case true = refl
      by_case false = refl

  find_under : (index : List ℕ) (number : ℕ) (es : List (List ℕ × Numbers B)) → IsStrictlySortedBy by_bytes (keys_of es)
      → find key_cmp (index, number) (entries_under bytes_in es) ≡ option_map bytes_in (at_number number (lookup (is_at (by_bytes index)) es))
  find_under index number [] rise = refl
  find_under index number (e ∷ es) rise = by_case (is_eq (by_bytes index e.0)) refl (find_under index number es (sorted_tail by_bytes e.0 (keys_of es) rise))
    where
      by_case : (b : Bool) → is_eq (by_bytes index e.0) ≡ b → find key_cmp (index, number) (entries_under bytes_in es) ≡ option_map bytes_in (at_number number (lookup (is_at (by_bytes index)) es))
          → find key_cmp (index, number) (entries_at bytes_in e.0 e.1.entries ++ entries_under bytes_in es) ≡ option_map bytes_in (at_number number (cond b (Some e.1) (lookup (is_at (by_bytes index)) es)))
      by_case true same later =
          let is : index ≡ e.0 = tells_apart exact_bytes index e.0 same in
          let none : find key_cmp (e.0, number) (entries_under bytes_in es) ≡ None =
          find_below key_cmp_total (e.0, number) (e.0, number) (entries_under bytes_in es) (ap is_eq (tied_itself key_cmp_total (e.0, number))) (below_rest e.0 number es (sorted_head by_bytes e.0 (keys_of es) rise)) in
          ap (λ (i : List ℕ). find key_cmp (i, number) (entries_at bytes_in e.0 e.1.entries ++ entries_under bytes_in es)) is
          ∙ find_here e.0 number e.1.entries (entries_under bytes_in es) none
      by_case false apart later = find_there (index, number) e.0 e.1.entries (entries_under bytes_in es) apart ∙ later

  pub get_is : (indexes : Indexes B) → IsKept indexes → (key : ShareKey) → get (shares_in bytes_in indexes) key ≡ option_map bytes_in (get_in indexes key)
  get_is indexes kept key = get-from_sorted key_cmp _ key (is_T _ (sorted_in indexes kept)) ∙ find_under key.0 key.1 indexes.entries kept.ordered

  -- the share at a key, of what stands under its index
  pub get_under : (indexes : Indexes B) → IsKept indexes → (index : List ℕ) (number : ℕ) (o : Option (Numbers B)) → tree.get by_bytes indexes index ≡ o
      → get (shares_in bytes_in indexes) (index, number) ≡ option_map bytes_in (at_number number o)
  get_under indexes kept index number o is = get_is indexes kept (index, number) ∙ ap (λ p. option_map bytes_in (at_number number p)) is

  -- ---- after a change at one key

  -- the same at each key
  pub unchanged : (m n : Indexes B) → IsKept m → IsKept n → ((key : ShareKey) → get_in n key ≡ get_in m key) → shares_in bytes_in n ≡ shares_in bytes_in m
  unchanged m n kept_m kept_n same = same_map key_cmp_total key_cmp_exact _ _ (λ q. get_is n kept_n q ∙ ap (option_map bytes_in) (same q) ∙ sym (get_is m kept_m q))

-- one index has other numbers, and under it one number another share
pub record Changed {B : Type 0} (m n : Indexes B) (index : List ℕ) (number : ℕ) (now : Option B) : Type 0 where
  pub under : Option (Numbers B)
  pub indexes : (q : List ℕ) → tree.get by_bytes n q ≡ cond (is_at (by_bytes index) q) under (tree.get by_bytes m q)
  pub numbers : (q : ℕ) → at_number q under ≡ cond (is_at (nat_cmp number) q) now (at_number q (tree.get by_bytes m index))

module _ {B : Type 0} (m n : Indexes B) (index : List ℕ) (number : ℕ) (now : Option B) (changed : Changed m n index number now) where
  get_changed : (key : ShareKey) → get_in n key ≡ cond (eq_by_cmp key_cmp key (index, number)) now (get_in m key)
  get_changed key = ap (at_number key.1) (changed.indexes key.0) ∙ by_case (is_at (by_bytes index) key.0) refl
    where
      tied : eq_by_cmp key_cmp (index, number) key ≡ eq_by_cmp key_cmp key (index, number)
      tied = (eq_by_cmp_equiv key_cmp_total).symm (index, number) key

      apart : (o p : Ordering) → is_eq o ≡ false → is_eq (ordering_then o p) ≡ false
      apart Less p h = refl
      apart Equal p h = cc
      apart Greater p h = refl

      by_case : (b : Bool) → is_at (by_bytes index) key.0 ≡ b → at_number key.1 (cond b changed.under (tree.get by_bytes m key.0)) ≡ cond (eq_by_cmp key_cmp key (index, number)) now (get_in m key)
      by_case true same =
          let is : index ≡ key.0 = tells_apart exact_bytes index key.0 same in
          let tie : is_at (nat_cmp number) key.1 ≡ eq_by_cmp key_cmp key (index, number) = ap (λ o. is_eq (ordering_then o (nat_cmp number key.1))) (sym (equal _ same)) ∙ tied in
          changed.numbers key.1
          ∙ ap (λ b. cond b now (at_number key.1 (tree.get by_bytes m index))) tie
          ∙ ap (λ (i : List ℕ). cond (eq_by_cmp key_cmp key (index, number)) now (at_number key.1 (tree.get by_bytes m i))) is
      by_case false other =
          ap (λ b. cond b now (get_in m key)) (sym (sym tied ∙ apart (by_bytes index key.0) (nat_cmp number key.1) other))

  module _ (bytes_in : B → List ℕ) (kept_m : IsKept m) (kept_n : IsKept n) where
    mapped : (b : Bool) (x y : Option B) → option_map bytes_in (cond b x y) ≡ cond b (option_map bytes_in x) (option_map bytes_in y)
    mapped true x y = refl
    mapped false x y = refl

    get_now : (key : ShareKey) → get (shares_in bytes_in n) key ≡ cond (eq_by_cmp key_cmp key (index, number)) (option_map bytes_in now) (get (shares_in bytes_in m) key)
    get_now key = get_is bytes_in n kept_n key ∙ ap (option_map bytes_in) (get_changed key)
        ∙ mapped (eq_by_cmp key_cmp key (index, number)) now (get_in m key)
        ∙ ap (cond (eq_by_cmp key_cmp key (index, number)) (option_map bytes_in now)) (sym (get_is bytes_in m kept_m key))

    pub put_there : (b : B) → now ≡ Some b → shares_in bytes_in n ≡ insert (shares_in bytes_in m) (index, number) (bytes_in b)
    put_there b is = same_map key_cmp_total key_cmp_exact _ _ (λ q. get_now q
        ∙ ap (λ o. cond (eq_by_cmp key_cmp q (index, number)) (option_map bytes_in o) (get (shares_in bytes_in m) q)) is
        ∙ sym (get-insert key_cmp_total (shares_in bytes_in m) (index, number) (bytes_in b) q))

    pub lost_there : now ≡ None → shares_in bytes_in n ≡ remove (shares_in bytes_in m) (index, number)
    lost_there is = same_map key_cmp_total key_cmp_exact _ _ (λ q. get_now q
        ∙ ap (λ o. cond (eq_by_cmp key_cmp q (index, number)) (option_map bytes_in o) (get (shares_in bytes_in m) q)) is
        ∙ sym (get-remove key_cmp_total (shares_in bytes_in m) (index, number) q))

-- ---- the numbers under an index

bytes_tie : (x y : List ℕ) → pointwise nat_eq y x ≡ is_eq (by_bytes x y)
bytes_tie [] [] = refl
bytes_tie [] (y ∷ ys) = refl
bytes_tie (x ∷ xs) [] = refl
bytes_tie (x ∷ xs) (y ∷ ys) = by_case (nat_eq y x) (nat_cmp x y) (number_tie x y) (bytes_tie xs ys)
  where
    number_tie : (a b : ℕ) → nat_eq b a ≡ is_eq (nat_cmp a b)
    number_tie a b = both_ways (nat_eq b a) (is_eq (nat_cmp a b))
        (λ e. ap is_eq (ap (nat_cmp a) (eqb-true b a e) ∙ tied_itself nat_cmp_total a))
        (λ e. eq-eqb b a (sym (tells_apart exact_unsigned a b e)))

    by_case : (b : Bool) (o : Ordering) → b ≡ is_eq o → pointwise nat_eq ys xs ≡ is_eq (by_bytes xs ys) → (b && pointwise nat_eq ys xs) ≡ is_eq (ordering_then o (by_bytes xs ys))
    by_case b Less h rest = ap (λ c. c && pointwise nat_eq ys xs) h
    by_case b Equal h rest = ap (λ c. c && pointwise nat_eq ys xs) h ∙ rest
    by_case b Greater h rest = ap (λ c. c && pointwise nat_eq ys xs) h

module _ {B : Type 0} (bytes_in : B → List ℕ) where
  abbrev pub numbers_at : Option (Numbers B) → List ℕ
  numbers_at None = []
  numbers_at (Some numbers) = tree.keys numbers

  numbers_in : List ℕ → List ShareEntry → List ℕ
  numbers_in index es = map (λ (e : ShareEntry). e.0.1) (of_index index es)

  numbers_here : (index : List ℕ) (ns : List (ℕ × B)) (rest : List ShareEntry) → numbers_in index rest ≡ [] → numbers_in index (entries_at bytes_in index ns ++ rest) ≡ keys_of ns
  unfolding numbers_in
  numbers_here index [] rest none = none
  numbers_here index (n ∷ ns) rest none =
      ap (λ b. map (λ (e : ShareEntry). e.0.1) (cond b (((index, n.0), bytes_in n.1) ∷ of_index index (entries_at bytes_in index ns ++ rest)) (of_index index (entries_at bytes_in index ns ++ rest)))) (bytes_tie index index ∙ ap is_eq (same_bytes index))
      ∙ ap (λ l. n.0 ∷ l) (numbers_here index ns rest none)

  numbers_there : (index other : List ℕ) (ns : List (ℕ × B)) (rest : List ShareEntry) → is_eq (by_bytes index other) ≡ false → numbers_in index (entries_at bytes_in other ns ++ rest) ≡ numbers_in index rest
  unfolding numbers_in
  numbers_there index other [] rest apart = refl
  numbers_there index other (n ∷ ns) rest apart =
      ap (λ b. map (λ (e : ShareEntry). e.0.1) (cond b (((other, n.0), bytes_in n.1) ∷ of_index index (entries_at bytes_in other ns ++ rest)) (of_index index (entries_at bytes_in other ns ++ rest)))) (bytes_tie index other ∙ apart)
      ∙ numbers_there index other ns rest apart

  numbers_none : (index : List ℕ) (es : List (List ℕ × Numbers B)) → AllByRecursion (λ y. by_bytes index y ≡ Less) (keys_of es) → numbers_in index (entries_under bytes_in es) ≡ []
  unfolding numbers_in
  numbers_none index [] rise = refl
  numbers_none index (e ∷ es) rise = numbers_there index e.0 e.1.entries (entries_under bytes_in es) (ap is_eq rise.0) ∙ numbers_none index es rise.1

  numbers_under : (index : List ℕ) (es : List (List ℕ × Numbers B)) → IsStrictlySortedBy by_bytes (keys_of es) → numbers_in index (entries_under bytes_in es) ≡ numbers_at (lookup (is_at (by_bytes index)) es)
  unfolding numbers_in
  numbers_under index [] rise = refl
  numbers_under index (e ∷ es) rise = by_case (is_eq (by_bytes index e.0)) refl (numbers_under index es (sorted_tail by_bytes e.0 (keys_of es) rise))
    where
      by_case : (b : Bool) → is_eq (by_bytes index e.0) ≡ b → numbers_in index (entries_under bytes_in es) ≡ numbers_at (lookup (is_at (by_bytes index)) es) → numbers_in index (entries_at bytes_in e.0 e.1.entries ++ entries_under bytes_in es) ≡ numbers_at (cond b (Some e.1) (lookup (is_at (by_bytes index)) es))
      by_case true same later =
          let is : index ≡ e.0 = tells_apart exact_bytes index e.0 same in
          ap (λ (i : List ℕ). numbers_in i (entries_at bytes_in e.0 e.1.entries ++ entries_under bytes_in es)) is
          ∙ numbers_here e.0 e.1.entries (entries_under bytes_in es) (numbers_none e.0 es (sorted_head by_bytes e.0 (keys_of es) rise))
      by_case false apart later = numbers_there index e.0 e.1.entries (entries_under bytes_in es) apart ∙ later

  pub numbers_are : (indexes : Indexes B) → IsKept indexes → (index : List ℕ) → numbers_for (shares_in bytes_in indexes) index ≡ numbers_at (tree.get by_bytes indexes index)
  unfolding numbers_in
  numbers_are indexes kept index = ap (λ es. map (λ (e : ShareEntry). e.0.1) (of_index index es)) (entries_in bytes_in indexes kept) ∙ numbers_under index indexes.entries kept.ordered

  pub empty_in : (indexes : Indexes B) → indexes.entries ≡ [] → shares_in bytes_in indexes ≡ empty
  empty_in indexes none = ap (λ es. from_sorted {R = key_cmp} (entries_under bytes_in es)) none
      ∙ same_map key_cmp_total key_cmp_exact _ _ (λ q. get-from_sorted key_cmp [] q tt ∙ sym (get-empty key_cmp q))

-- what was read behind a reference
pub mapped_copy : {A C : Type 0} (f : A → C) (o : Option (Bor A)) → option_map (λ x. f x.now) o ≡ option_map f (option_copied o)
mapped_copy f None = refl
mapped_copy f (Some x) = refl
