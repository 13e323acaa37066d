-- The indexes before a bound, and those from it on.
use Rattle.std.proofs.Common.{◌≡◌, ℕ, ◌+◌, ◌-◌, ◌≤◌, ◌<◌, Bool, true, false, cond, ◌&&◌, List, [], ◌∷◌, ◌++◌, length, slice_get, None, refl, sym, ap, subst, ◌∙◌, arith, append_assoc, length-append, append-nil}
use Rattle.std.specs.Prelude.{not}
use Rattle.std.specs.List.{AllByRecursion}
use Rattle.std.specs.Ordering.{is_lt, is_le, ordering_reverse}
use Rattle.std.specs.declared.cmp.Ordering.{Ordering}
use Rattle.std.specs.declared.cmp.Ordering.TheVariants.{Less, Equal, Greater}
use Rattle.std.specs.declared.ops.Bound.{Bound}
use Rattle.std.specs.declared.ops.Bound.TheVariants.{Included, Excluded, Unbounded}
use Rattle.std.specs.Cmp.Lexicographic.{nat_list_cmp_total}
use Rattle.std.specs.List.Sorted.{IsStrictlySortedBy}
use Rattle.std.specs.Map.{keys_of}
use Rattle.std.specs.BTreeMap.Range.{is_from_start, entries_between}
use Rattle.std.proofs.lemmas.Map.Keys.{sorted_head, sorted_tail}
use Rattle.std.proofs.lemmas.List.{length-map}
use Rattle.share_store.specs.Stored.{Numbers, entries_at, entries_under, indexes_before}
use Rattle.share_store.proofs.Levels.{by_bytes, same_bytes}
use Rattle.share_store.proofs.Places.{later, at_first}

-- a key after one that is inside a start bound is inside too
up : (lo : Bound (List ℕ)) (x y : List ℕ) → is_from_start by_bytes lo x ≡ true → by_bytes x y ≡ Less → is_from_start by_bytes lo y ≡ true
up (Included a) x y from less = by_case (by_bytes a x) refl from
  where
    by_case : (o : Ordering) → by_bytes a x ≡ o → is_le o ≡ true → is_le (by_bytes a y) ≡ true
    by_case Less is h = ap is_le (nat_list_cmp_total.trans a x y is less)
    by_case Equal is h = ap is_le (nat_list_cmp_total.congr a x y is ∙ less)
    by_case Greater is h = cc
up (Excluded a) x y from less = by_case (by_bytes a x) refl from
  where
    by_case : (o : Ordering) → by_bytes a x ≡ o → is_lt o ≡ true → is_lt (by_bytes a y) ≡ true
    by_case Less is h = ap is_lt (nat_list_cmp_total.trans a x y is less)
    by_case Equal is h = cc
    by_case Greater is h = cc
up Unbounded x y from less = refl

each_up : (lo : Bound (List ℕ)) (x : List ℕ) (ks : List (List ℕ)) → is_from_start by_bytes lo x ≡ true → AllByRecursion (λ y. by_bytes x y ≡ Less) ks → AllByRecursion (λ y. is_from_start by_bytes lo y ≡ true) ks
each_up lo x [] from rise = tt
each_up lo x (k ∷ ks) from rise = (up lo x k from rise.0, each_up lo x ks from rise.1)

module _ {B : Type 0} (lo : Bound (List ℕ)) where
  all_from : (es : List (List ℕ × Numbers B)) → AllByRecursion (λ y. is_from_start by_bytes lo y ≡ true) (keys_of es) → entries_between by_bytes lo Unbounded es ≡ es
  all_from [] all = refl
  all_from (e ∷ es) all =
      ap (λ b. cond (b && true) (e ∷ entries_between by_bytes lo Unbounded es) (entries_between by_bytes lo Unbounded es)) all.0
      ∙ ap (λ (l : List (List ℕ × Numbers B)). e ∷ l) (all_from es all.1)

  none_before : (es : List (List ℕ × Numbers B)) → AllByRecursion (λ y. is_from_start by_bytes lo y ≡ true) (keys_of es) → indexes_before lo es ≡ []
  none_before [] all = refl
  none_before (e ∷ es) all =
      ap (λ b. cond (not b) (e ∷ indexes_before lo es) (indexes_before lo es)) all.0 ∙ none_before es all.1

  -- in order, those before a bound come first
  parted : (es : List (List ℕ × Numbers B)) → IsStrictlySortedBy by_bytes (keys_of es) → es ≡ indexes_before lo es ++ entries_between by_bytes lo Unbounded es
  parted [] rise = refl
  parted (e ∷ es) rise = by_case (is_from_start by_bytes lo e.0) refl (parted es (sorted_tail by_bytes e.0 (keys_of es) rise))
    where
      by_case : (b : Bool) → is_from_start by_bytes lo e.0 ≡ b → es ≡ indexes_before lo es ++ entries_between by_bytes lo Unbounded es
          → e ∷ es ≡ cond (not b) (e ∷ indexes_before lo es) (indexes_before lo es) ++ cond (b && true) (e ∷ entries_between by_bytes lo Unbounded es) (entries_between by_bytes lo Unbounded es)
      by_case false is rest = ap (λ (l : List (List ℕ × Numbers B)). e ∷ l) rest
      by_case true is rest =
          let all = each_up lo e.0 (keys_of es) is (sorted_head by_bytes e.0 (keys_of es) rise) in
          ap (λ (l : List (List ℕ × Numbers B)). e ∷ l) (sym (all_from es all))
          ∙ ap (λ (l : List (List ℕ × Numbers B)). l ++ e ∷ entries_between by_bytes lo Unbounded es) (sym (none_before es all))

-- nothing is before no bound
before_none : {B : Type 0} (es : List (List ℕ × Numbers B)) → indexes_before Unbounded es ≡ []
before_none [] = refl
before_none (e ∷ es) = before_none es

module _ {B : Type 0} (index : List ℕ) (numbers : Numbers B) (rest : List (List ℕ × Numbers B)) where
  less_than : (x : List ℕ) (xs : List (List ℕ × Numbers B)) → AllByRecursion (λ y. by_bytes x y ≡ Less) (keys_of (xs ++ (index, numbers) ∷ rest)) → by_bytes x index ≡ Less
  less_than x [] rise = rise.0
  less_than x (y ∷ xs) rise = less_than x xs rise.1

  -- those before an index are those that stand before it
  before_index : (xs : List (List ℕ × Numbers B)) → IsStrictlySortedBy by_bytes (keys_of (xs ++ (index, numbers) ∷ rest)) → indexes_before (Included index) (xs ++ (index, numbers) ∷ rest) ≡ xs
  before_index [] rise =
      none_before (Included index) ((index, numbers) ∷ rest)
      (ap is_le (same_bytes index), each_up (Included index) index (keys_of rest) (ap is_le (same_bytes index)) (sorted_head by_bytes index (keys_of rest) rise))
  before_index (x ∷ xs) rise =
      let less : by_bytes x.0 index ≡ Less = less_than x.0 xs (sorted_head by_bytes x.0 (keys_of (xs ++ (index, numbers) ∷ rest)) rise) in
      let more : by_bytes index x.0 ≡ Greater = nat_list_cmp_total.antisymm index x.0 ∙ ap ordering_reverse less in
      ap (λ o. cond (not (is_le o)) (x ∷ indexes_before (Included index) (xs ++ (index, numbers) ∷ rest)) (indexes_before (Included index) (xs ++ (index, numbers) ∷ rest))) more
      ∙ ap (λ (l : List (List ℕ × Numbers B)). x ∷ l) (before_index xs (sorted_tail by_bytes x.0 (keys_of (xs ++ (index, numbers) ∷ rest)) rise))

module _ {B : Type 0} (bytes_in : B → List ℕ) where
  under-append : (xs ys : List (List ℕ × Numbers B)) → entries_under bytes_in (xs ++ ys) ≡ entries_under bytes_in xs ++ entries_under bytes_in ys
  under-append [] ys = refl
  under-append (x ∷ xs) ys = ap (λ l. entries_at bytes_in x.0 x.1.entries ++ l) (under-append xs ys) ∙ sym (append_assoc (entries_at bytes_in x.0 x.1.entries) (entries_under bytes_in xs) (entries_under bytes_in ys))

  -- no shares stand before no bound
  pub nothing_before : (es : List (List ℕ × Numbers B)) → 0 ≡ length (entries_under bytes_in (indexes_before Unbounded es))
  nothing_before es = ap (λ l. length (entries_under bytes_in l)) (sym (before_none es))

-- some first indexes were passed and `ys` are left, and `before` shares were passed, none of them past `at`
pub record Passed {B : Type 0} (bytes_in : B → List ℕ) (es ys : List (List ℕ × Numbers B)) (before at : ℕ) : Type 0 where
  pub first : List (List ℕ × Numbers B)
  pub parts : es ≡ first ++ ys
  pub counted : before ≡ length (entries_under bytes_in first)
  pub within : before ≤ at

module _ {B : Type 0} (bytes_in : B → List ℕ) (es ys : List (List ℕ × Numbers B)) (before at : ℕ) where
  -- from a bound on
  pub passed_before : (lo : Bound (List ℕ)) → IsStrictlySortedBy by_bytes (keys_of es) → ys ≡ entries_between by_bytes lo Unbounded es → before ≡ length (entries_under bytes_in (indexes_before lo es)) → before ≤ at → Passed bytes_in es ys before at
  passed_before lo rise is counted within = record {
    first = indexes_before lo es;
    parts = parted lo es rise ∙ ap (λ l. indexes_before lo es ++ l) (sym is);
    counted = counted;
    within = within;
  }

  module _ (passed : Passed bytes_in es ys before at) where
    -- what is looked for is among what is left
    pub left_at : slice_get (entries_under bytes_in es) at ≡ slice_get (entries_under bytes_in ys) (at - before)
    left_at =
        ap (λ l. slice_get (entries_under bytes_in l) at) passed.parts ∙ ap (λ l. slice_get l at) (under-append bytes_in passed.first ys)
        ∙ later (entries_under bytes_in passed.first) (entries_under bytes_in ys) at (omega (arith, passed.counted, passed.within))
        ∙ ap (λ n. slice_get (entries_under bytes_in ys) (at - n)) (sym passed.counted)

    -- past one more index
    pub passed_more : (index : List ℕ) (numbers : Numbers B) (zs : List (List ℕ × Numbers B)) (count : ℕ) → ys ≡ (index, numbers) ∷ zs → count ≡ length numbers.entries → count ≤ at - before → Passed bytes_in es zs (before + count) at
    passed_more index numbers zs count is counts past = record {
      first = passed.first ++ (index, numbers) ∷ [];
      parts = passed.parts ∙ ap (λ l. passed.first ++ l) is ∙ sym (append_assoc passed.first ((index, numbers) ∷ []) zs);
      counted = more;
      within = omega (arith, passed.within, past);
    }
      where
        here_long : length (entries_under bytes_in ((index, numbers) ∷ [])) ≡ count
        here_long = ap length (append-nil (entries_at bytes_in index numbers.entries)) ∙ length-map numbers.entries (λ n. ((index, n.0), bytes_in n.1)) ∙ sym counts

        more : before + count ≡ length (entries_under bytes_in (passed.first ++ (index, numbers) ∷ []))
        more =
            let long : length (entries_under bytes_in (passed.first ++ (index, numbers) ∷ [])) ≡ length (entries_under bytes_in passed.first) + length (entries_under bytes_in ((index, numbers) ∷ [])) =
            ap length (under-append bytes_in passed.first ((index, numbers) ∷ [])) ∙ length-append (entries_under bytes_in passed.first) (entries_under bytes_in ((index, numbers) ∷ [])) in
            omega (arith, long, here_long, passed.counted)

    -- as many shares stand before the index that comes next
    pub passed_to : (index : List ℕ) (numbers : Numbers B) (zs : List (List ℕ × Numbers B)) → IsStrictlySortedBy by_bytes (keys_of es) → ys ≡ (index, numbers) ∷ zs → before ≡ length (entries_under bytes_in (indexes_before (Included index) es))
    passed_to index numbers zs rise is =
        let split : es ≡ passed.first ++ (index, numbers) ∷ zs = passed.parts ∙ ap (λ l. passed.first ++ l) is in
        passed.counted
        ∙ ap (λ l. length (entries_under bytes_in l)) (sym (ap (indexes_before (Included index)) split ∙ before_index index numbers zs passed.first (subst (λ (l : List (List ℕ × Numbers B)). IsStrictlySortedBy by_bytes (keys_of l)) split rise)))

    -- what is looked for stands under the index that comes next
    pub found_next : (index : List ℕ) (numbers : Numbers B) (zs : List (List ℕ × Numbers B)) (count : ℕ) → ys ≡ (index, numbers) ∷ zs → count ≡ length numbers.entries → at - before < count
        → slice_get (entries_under bytes_in es) at ≡ slice_get (entries_at bytes_in index numbers.entries) (at - before)
    found_next index numbers zs count is counts within = left_at ∙ at_first bytes_in index numbers zs ys is (at - before) count counts within

    -- nothing is left
    pub found_none : ys ≡ [] → slice_get (entries_under bytes_in es) at ≡ None
    found_none is = left_at ∙ ap (λ l. slice_get (entries_under bytes_in l) (at - before)) is
