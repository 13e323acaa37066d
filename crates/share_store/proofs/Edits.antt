-- Shares in two levels after an edit under one index.
use Rattle.std.proofs.Common.{◌≡◌, ℕ, zero, suc, ◌+◌, ◌<◌, Bool, true, false, cond, List, [], ◌∷◌, length, Option, Some, None, IsSome, is_some, Result, Ok, Err, IfOk, All, refl, sym, ap, subst, ◌∙◌, arith}
use Rattle.std.specs.Prelude.{OnErr, OnOk, IfSome, IsTrue, ◌↔◌}
use Rattle.std.specs.Ordering.{nat_cmp}
use Rattle.std.specs.Map.{lookup, values_of, set_value, remove_entry}
use Rattle.std.specs.BTreeMap as tree
use Rattle.std.specs.BTreeMap.{is_at, insert_entry}
use Rattle.std.proofs.lemmas.Map.Views.{tells_apart, All-values-set_value, All-values-insert_entry, All-map-remove_entry, IfSome-lookup_from_All}
use Rattle.std.proofs.lemmas.Map.Lookups.{exact_bytes}
use Rattle.share_store.specs.Stored.{Numbers, Indexes, shares_in, IsKept}
use Rattle.share_store.proofs.Levels.{by_bytes, at_number, get_in, unchanged, Changed}

module _ {B : Type 0} where
  abbrev pub InOrder : Numbers B → Type 0
  InOrder numbers = tree.IsOrdered nat_cmp numbers

  abbrev pub NotEmpty : Numbers B → Type 0
  NotEmpty numbers = 0 < tree.btree_map_len numbers

  -- under an index that is kept at least one number stands
  pub stands_under : (m : Indexes B) (index : List ℕ) (numbers : Numbers B) → IsKept m → tree.get by_bytes m index ≡ Some numbers → NotEmpty numbers
  stands_under m index numbers kept is = subst (λ (o : Option (Numbers B)). IfSome o NotEmpty) is (IfSome-lookup_from_All NotEmpty (is_at (by_bytes index)) m.entries kept.none_empty)

  -- ---- that a map is kept

  pub kept_written : (m n : Indexes B) (index : List ℕ) (numbers : Numbers B) → IsKept m → n.entries ≡ set_value (is_at (by_bytes index)) m.entries numbers → tree.IsOrdered by_bytes n → InOrder numbers → NotEmpty numbers → IsKept n
  kept_written m n index numbers kept is ordered in_order not_empty = record {
    ordered = ordered;
    numbers = subst (λ (es : List (List ℕ × Numbers B)). All InOrder (values_of es)) (sym is) (All-values-set_value (is_at (by_bytes index)) InOrder m.entries numbers kept.numbers in_order);
    none_empty = subst (λ (es : List (List ℕ × Numbers B)). All NotEmpty (values_of es)) (sym is) (All-values-set_value (is_at (by_bytes index)) NotEmpty m.entries numbers kept.none_empty not_empty);
  }

  pub kept_inserted : (m n : Indexes B) (index : List ℕ) (numbers : Numbers B) → IsKept m → n.entries ≡ insert_entry by_bytes m.entries index numbers → tree.IsOrdered by_bytes n → InOrder numbers → NotEmpty numbers → IsKept n
  kept_inserted m n index numbers kept is ordered in_order not_empty = record {
    ordered = ordered;
    numbers = subst (λ (es : List (List ℕ × Numbers B)). All InOrder (values_of es)) (sym is) (All-values-insert_entry by_bytes index numbers InOrder m.entries kept.numbers in_order);
    none_empty = subst (λ (es : List (List ℕ × Numbers B)). All NotEmpty (values_of es)) (sym is) (All-values-insert_entry by_bytes index numbers NotEmpty m.entries kept.none_empty not_empty);
  }

  -- an index was put, or there was no memory
  pub kept_put : {A E : Type 0} (m n : Indexes B) (index : List ℕ) (numbers : Numbers B) (r : Result A E) → IsKept m → OnOk r (n.entries ≡ insert_entry by_bytes m.entries index numbers) → OnErr r (n.entries ≡ m.entries)
      → tree.IsOrdered by_bytes n → InOrder numbers → NotEmpty numbers → IsKept n
  kept_put m n index numbers (Ok a) kept put same ordered in_order not_empty = kept_inserted m n index numbers kept put ordered in_order not_empty
  kept_put m n index numbers (Err e) kept put same ordered in_order not_empty = record {
    ordered = ordered;
    numbers = subst (λ (es : List (List ℕ × Numbers B)). All InOrder (values_of es)) (sym same) kept.numbers;
    none_empty = subst (λ (es : List (List ℕ × Numbers B)). All NotEmpty (values_of es)) (sym same) kept.none_empty;
  }

  -- a number that is found stands
  pub not_empty_at : (numbers : Numbers B) (number : ℕ) (b : B) → tree.get nat_cmp numbers number ≡ Some b → NotEmpty numbers
  not_empty_at numbers number b found = by_case numbers.entries found
    where
      by_case : (es : List (ℕ × B)) → lookup (is_at (nat_cmp number)) es ≡ Some b → 0 < length es
      by_case [] e = cc
      by_case (x ∷ es) e = omega arith

  -- what was written at an index goes with it
  written_gone : (test : List ℕ → Bool) (es : List (List ℕ × Numbers B)) (numbers : Numbers B) → remove_entry test (set_value test es numbers) ≡ remove_entry test es
  written_gone test [] numbers = refl
  written_gone test (e ∷ es) numbers = by_case (test e.0) refl (written_gone test es numbers)
    where
      by_case : (b : Bool) → test e.0 ≡ b → remove_entry test (set_value test es numbers) ≡ remove_entry test es
          → remove_entry test (cond b ((e.0, numbers) ∷ es) (e ∷ set_value test es numbers)) ≡ cond b es (e ∷ remove_entry test es)
      by_case true is later = ap (λ b. cond b es ((e.0, numbers) ∷ remove_entry test es)) is
      by_case false is later = ap (λ b. cond b (set_value test es numbers) (e ∷ remove_entry test (set_value test es numbers))) is ∙ ap (λ (l : List (List ℕ × Numbers B)). e ∷ l) later

  pub kept_removed : (m w n : Indexes B) (index : List ℕ) (numbers : Numbers B) → IsKept m → w.entries ≡ set_value (is_at (by_bytes index)) m.entries numbers → n.entries ≡ remove_entry (is_at (by_bytes index)) w.entries → tree.IsOrdered by_bytes n → IsKept n
  kept_removed m w n index numbers kept written is ordered =
      let same : n.entries ≡ remove_entry (is_at (by_bytes index)) m.entries = is ∙ ap (remove_entry (is_at (by_bytes index))) written ∙ written_gone (is_at (by_bytes index)) m.entries numbers in
      record {
        ordered = ordered;
        numbers = subst (λ (es : List (List ℕ × Numbers B)). All InOrder (values_of es)) (sym same) (All-map-remove_entry (is_at (by_bytes index)) (λ e. e.1) InOrder m.entries kept.numbers);
        none_empty = subst (λ (es : List (List ℕ × Numbers B)). All NotEmpty (values_of es)) (sym same) (All-map-remove_entry (is_at (by_bytes index)) (λ e. e.1) NotEmpty m.entries kept.none_empty);
      }

  -- numbers into which one was put, or for which there was no memory
  pub stays_not_empty : {E : Type 0} (old new : Numbers B) (r : Result (Option B) E) (more : Option B → ℕ) → NotEmpty old → IfOk r (λ before. tree.btree_map_len new ≡ tree.btree_map_len old + more before) → OnErr r (new.entries ≡ old.entries) → NotEmpty new
  stays_not_empty old new (Ok before) more some len same = omega arith
  stays_not_empty old new (Err e) more some len same = omega (arith, ap length same)

  -- ---- what changed

  pub changed_under : (m n : Indexes B) (index : List ℕ) (number : ℕ) (now : Option B) (old new : Numbers B) → tree.get by_bytes m index ≡ Some old
      → ((q : List ℕ) → tree.get by_bytes n q ≡ cond (is_at (by_bytes index) q) (Some new) (tree.get by_bytes m q))
      → ((q : ℕ) → tree.get nat_cmp new q ≡ cond (is_at (nat_cmp number) q) now (tree.get nat_cmp old q)) → Changed m n index number now
  changed_under m n index number now old new found outer inner = record {
    under = Some new;
    indexes = outer;
    numbers = λ q. inner q ∙ ap (λ o. cond (is_at (nat_cmp number) q) now (at_number q o)) (sym found);
  }

  -- the first number under an index
  pub changed_first : (m n : Indexes B) (index : List ℕ) (number : ℕ) (now : Option B) (none new : Numbers B) → tree.get by_bytes m index ≡ None → none.entries ≡ []
      → ((q : List ℕ) → tree.get by_bytes n q ≡ cond (is_at (by_bytes index) q) (Some new) (tree.get by_bytes m q))
      → ((q : ℕ) → tree.get nat_cmp new q ≡ cond (is_at (nat_cmp number) q) now (tree.get nat_cmp none q)) → Changed m n index number now
  changed_first m n index number now none new absent empty outer inner = record {
    under = Some new;
    indexes = outer;
    numbers = λ q. inner q
        ∙ ap (λ es. cond (is_at (nat_cmp number) q) now (lookup (is_at (nat_cmp q)) es)) empty
        ∙ ap (λ o. cond (is_at (nat_cmp number) q) now (at_number q o)) (sym absent);
  }

  -- the last number under an index went, and the index with it
  pub changed_last : (m w n : Indexes B) (index : List ℕ) (number : ℕ) (old new : Numbers B) → tree.get by_bytes m index ≡ Some old → tree.btree_map_len new ≡ 0
      → ((q : List ℕ) → tree.get by_bytes w q ≡ cond (is_at (by_bytes index) q) (Some new) (tree.get by_bytes m q))
      → ((q : List ℕ) → tree.get by_bytes n q ≡ cond (is_at (by_bytes index) q) None (tree.get by_bytes w q))
      → ((q : ℕ) → tree.get nat_cmp new q ≡ cond (is_at (nat_cmp number) q) None (tree.get nat_cmp old q)) → Changed m n index number None
  changed_last m w n index number old new found empty written outer inner = record {
    under = None;
    indexes = λ q. outer q ∙ ap (cond (is_at (by_bytes index) q) None) (written q) ∙ twice (is_at (by_bytes index) q) None (Some new) (tree.get by_bytes m q);
    numbers = λ q. ap (lookup (is_at (nat_cmp q))) (sym (nothing new.entries empty)) ∙ inner q ∙ ap (λ o. cond (is_at (nat_cmp number) q) None (at_number q o)) (sym found);
  }
    where
      twice : {A : Type 0} (b : Bool) (x y z : A) → cond b x (cond b y z) ≡ cond b x z
      twice true x y z = refl
      twice false x y z = refl

      nothing : {A : Type 0} (es : List A) → length es ≡ 0 → es ≡ []
      nothing [] e = refl
      nothing (x ∷ es) e = absurd (omega arith)

  -- what had been written was the same
  pub unwritten : (bytes_in : B → List ℕ) (m n : Indexes B) (index : List ℕ) (old new : Numbers B) → IsKept m → IsKept n → tree.get by_bytes m index ≡ Some old
      → ((q : List ℕ) → tree.get by_bytes n q ≡ cond (is_at (by_bytes index) q) (Some new) (tree.get by_bytes m q)) → new.entries ≡ old.entries → shares_in bytes_in n ≡ shares_in bytes_in m
  unwritten bytes_in m n index old new kept_m kept_n found outer same =
      unchanged bytes_in m n kept_m kept_n (λ key. ap (at_number key.1) (outer key.0) ∙ by_case key (is_at (by_bytes index) key.0) refl)
    where
      by_case : (key : List ℕ × ℕ) (b : Bool) → is_at (by_bytes index) key.0 ≡ b → at_number key.1 (cond b (Some new) (tree.get by_bytes m key.0)) ≡ get_in m key
      by_case key true is =
          let at : index ≡ key.0 = tells_apart exact_bytes index key.0 is in
          ap (lookup (is_at (nat_cmp key.1))) same ∙ ap (at_number key.1) (sym found ∙ ap (tree.get by_bytes m) at)
      by_case key false is = refl

pub is_there : {A : Type 0} (o : Option A) (x : A) → o ≡ Some x → IsSome o
is_there o x is = ap is_some is

pub on_err : {A E P : Type 0} (r : Result A E) → P → OnErr r P
on_err (Ok x) p = tt
on_err (Err e) p = p

-- nothing stands under an index, and nothing is lost
pub absent_lost : {B : Type 0} (m : Indexes B) (index : List ℕ) (number : ℕ) → tree.get by_bytes m index ≡ None → Changed m m index number None
absent_lost m index number absent = record {
  under = None;
  indexes = λ q. by_case q (is_at (by_bytes index) q) refl;
  numbers = λ q. none (is_at (nat_cmp number) q) ∙ ap (λ o. cond (is_at (nat_cmp number) q) None (at_number q o)) (sym absent);
}
  where
    none : {A : Type 0} (b : Bool) → (let n : Option A = None in n) ≡ cond b None None
    none true = refl
    none false = refl

    by_case : (q : List ℕ) (b : Bool) → is_at (by_bytes index) q ≡ b → tree.get by_bytes m q ≡ cond b None (tree.get by_bytes m q)
    by_case q true is = ap (tree.get by_bytes m) (sym (tells_apart exact_bytes index q is)) ∙ absent
    by_case q false is = refl

-- what isn't empty has a number
pub left_some : {B : Type 0} (numbers : Numbers B) (is_empty : Bool) → IsTrue is_empty ↔ (tree.btree_map_len numbers ≡ 0) → is_empty ≡ false → NotEmpty numbers
left_some numbers is_empty says unless = by_case (tree.btree_map_len numbers) refl
  where
    by_case : (n : ℕ) → tree.btree_map_len numbers ≡ n → 0 < n
    by_case zero is = let yes : is_empty ≡ true = says.1 is in cc
    by_case (suc n) is = omega arith
