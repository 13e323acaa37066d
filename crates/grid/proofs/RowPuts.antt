-- A row that is put behind all others.
use Rattle.std.proofs.Common.{◌≡◌, ◌⊎◌, inl, inr, ◌<◌, ◌≤◌, ℕ, zero, suc, cond, ◌==◌, List, [], ◌∷◌, ◌++◌, length, map, Some, None, slice_get, slice_set, is_some, if◌then◌else◌, refl, sym, ap, subst, ◌∙◌, arith, append_assoc, append-nil, length-set, get_or}
use Rattle.std.proofs.lemmas.Bool.Decides.{nat_tests}
use Rattle.std.proofs.lemmas.List.{map-append}
use Rattle.std.proofs.lemmas.Option.{slice_get_cases}
use Rattle.std.specs.Option.{option_map_or}
use Rattle.std.specs.declared.cmp.Ordering.{Ordering}
use Rattle.std.specs.declared.cmp.Ordering.TheVariants.{Less, Equal, Greater}
use Rattle.std.specs.Ordering.{is_eq, ordering_then, ordering_reverse, nat_cmp}
use Rattle.std.specs.Cmp.{nat_cmp_is}
use Rattle.std.specs.FinMap.{find, insert, entries, get-entries, entries-insert}
use Rattle.std.specs.FinMap.Entries.{put, by_order}
use Rattle.share_store.specs.Shares.{Shares, ShareKey, ShareEntry, key_cmp}
use Rattle.share_store.specs.Put.{put_once}
use Rattle.grid.specs.Found.{entries_at}
use Rattle.grid.specs.Rows.{Row, rows_below, rows_of}
use Rattle.grid.specs.RowOrder.{RowKey, AllBefore}
use Rattle.share_store.specs.MapLaws.{key_cmp_total}
use Rattle.grid.specs.OneStore.{with_changed}
use Rattle.grid.proofs.Standing.{get-set}

-- ---- in one store

abbrev KeysBefore : List ShareEntry → ShareKey → Type 0
KeysBefore [] key = Unit {0}
KeysBefore (e ∷ es) key = (key_cmp e.0 key ≡ Less) × KeysBefore es key

behind : (a b : ShareKey) → key_cmp a b ≡ Less → key_cmp b a ≡ Greater
behind a b less = key_cmp_total.antisymm b a ∙ ap ordering_reverse less

put_last : (es : List ShareEntry) (key : ShareKey) (bytes : List ℕ) → KeysBefore es key → put key_cmp key bytes es ≡ es ++ (key, bytes) ∷ []
put_last [] key bytes before = refl
put_last (e ∷ es) key bytes before =
    ap (λ o. by_order o ((key, bytes) ∷ e ∷ es) ((e.0, bytes) ∷ es) (e ∷ put key_cmp key bytes es)) (behind e.0 key before.0)
    ∙ ap (λ l. e ∷ l) (put_last es key bytes before.1)

find_last : (es : List ShareEntry) (key : ShareKey) → KeysBefore es key → find key_cmp key es ≡ None
find_last [] key before = refl
find_last (e ∷ es) key before = ap (λ o. cond (is_eq o) (Some e.1) (find key_cmp key es)) (behind e.0 key before.0) ∙ find_last es key before.1

entries_put : (m : Shares) (key : ShareKey) (bytes : List ℕ) → KeysBefore (entries m) key → entries (put_once m key bytes) ≡ entries m ++ (key, bytes) ∷ []
entries_put m key bytes before =
    ap (λ b. entries (cond b m (insert m key bytes))) (ap is_some (get-entries m key ∙ find_last (entries m) key before))
    ∙ entries-insert key_cmp_total m key bytes ∙ put_last (entries m) key bytes before

-- ---- among the rows

before_left : (xs ys : List Row) (key : RowKey) → AllBefore (xs ++ ys) key → AllBefore xs key
before_left [] ys key h = tt
before_left (x ∷ xs) ys key h = (h.0, before_left xs ys key h.1)

before_right : (xs ys : List Row) (key : RowKey) → AllBefore (xs ++ ys) key → AllBefore ys key
before_right [] ys key h = h
before_right (x ∷ xs) ys key h = before_right xs ys key h.1

pub before_both : (xs ys : List Row) (key : RowKey) → AllBefore xs key → AllBefore ys key → AllBefore (xs ++ ys) key
before_both [] ys key p q = q
before_both (x ∷ xs) ys key p q = (p.0, before_both xs ys key p.1 q)

same_server : (s : ℕ) (r : Ordering) → ordering_then (nat_cmp s s) r ≡ Less → r ≡ Less
same_server s r less = sym (ap (λ o. ordering_then o r) (sym (nat_cmp_is s s Equal refl))) ∙ less

keys_here : (s : ℕ) (es : List ShareEntry) (key : ShareKey) → AllBefore (map (λ e. (s, e)) es) (s, key) → KeysBefore es key
keys_here s [] key h = tt
keys_here s (e ∷ es) key h = (same_server s (key_cmp e.0 key) h.0, keys_here s es key h.1)

none_past : (n s : ℕ) (es : List ShareEntry) (key : ShareKey) → s < n → AllBefore (map (λ e. (n, e)) es) (s, key) → es ≡ []
none_past n s [] key past h = refl
none_past n s (e ∷ es) key past h =
    let greater : nat_cmp n s ≡ Greater = sym (nat_cmp_is n s Greater past) in
    let no : Greater ≡ Less = sym (ap (λ o. ordering_then o (key_cmp e.0 key)) greater) ∙ h.0 in cc

module _ (maps : List Shares) (s : ℕ) (m : Shares) (key : ShareKey) (bytes : List ℕ) (in_range : s < length maps) (at : slice_get maps s ≡ Some m) where
  abbrev after : List Shares
  after = slice_set maps s (put_once m key bytes)

  abbrev row : Row
  row = (s, (key, bytes))

  other_entries : (n : ℕ) → (n ≡ s → ⊥) → entries_at after n ≡ entries_at maps n
  other_entries n other = ap (λ o. option_map_or entries o []) (get-set maps s (put_once m key bytes) in_range n ∙ by_test)
    where
      by_test : (if n == s then Some (put_once m key bytes) else slice_get maps n) ≡ slice_get maps n
      by_test = grind (arith, nat_tests)

  here_entries : entries_at after s ≡ entries (put_once m key bytes)
  here_entries = ap (λ o. option_map_or entries o []) (get-set maps s (put_once m key bytes) in_range s ∙ by_test)
    where
      by_test : (if s == s then Some (put_once m key bytes) else slice_get maps s) ≡ Some (put_once m key bytes)
      by_test = grind (arith, nat_tests)

  old_entries : entries_at maps s ≡ entries m
  old_entries = ap (λ o. option_map_or entries o []) at

  below_it : (n : ℕ) → n ≤ s → rows_below after n ≡ rows_below maps n
  below_it zero le = refl
  below_it (suc n) le =
      ap (λ l. l ++ map (λ e. (n, e)) (entries_at after n)) (below_it n (omega arith))
      ∙ ap (λ es. rows_below maps n ++ map (λ e. (n, e)) es) (other_entries n (λ same. omega arith))

  at_it : AllBefore (rows_below maps (suc s)) (s, key) → rows_below after (suc s) ≡ rows_below maps (suc s) ++ row ∷ []
  at_it before =
      let rows : List ShareEntry → List Row = λ es. map (λ e. (s, e)) es in
      let keys : KeysBefore (entries m) key =
      keys_here s (entries m) key (subst (λ es. AllBefore (rows es) (s, key)) old_entries (before_right (rows_below maps s) (rows (entries_at maps s)) (s, key) before)) in
      ap (λ l. l ++ rows (entries_at after s)) (below_it s (omega arith))
      ∙ ap (λ es. rows_below maps s ++ rows es) (here_entries ∙ entries_put m key bytes keys)
      ∙ ap (λ l. rows_below maps s ++ l) (map-append (λ e. (s, e)) (entries m) ((key, bytes) ∷ []))
      ∙ sym (append_assoc (rows_below maps s) (rows (entries m)) (row ∷ []))
      ∙ ap (λ es. (rows_below maps s ++ rows es) ++ row ∷ []) (sym old_entries)

  from_it : (n : ℕ) → s < n → AllBefore (rows_below maps n) (s, key) → rows_below after n ≡ rows_below maps n ++ row ∷ []
  from_it zero lt before = absurd (omega arith)
  from_it (suc n) lt before =
      by_case n before (λ past. from_it n past (before_left (rows_below maps n) (map (λ e. (n, e)) (entries_at maps n)) (s, key) before)) (grind arith)
    where
      by_case : (k : ℕ) → AllBefore (rows_below maps (suc k)) (s, key) → (s < k → rows_below after k ≡ rows_below maps k ++ row ∷ []) → (k ≡ s) ⊎ (s < k)
          → rows_below after (suc k) ≡ rows_below maps (suc k) ++ row ∷ []
      by_case k held earlier (inl same) =
          subst (λ j. rows_below after (suc j) ≡ rows_below maps (suc j) ++ row ∷ []) (sym same)
          (at_it (subst (λ j. AllBefore (rows_below maps (suc j)) (s, key)) same held))
      by_case k held earlier (inr past) =
          let rows : List ShareEntry → List Row = λ es. map (λ e. (k, e)) es in
          let none : entries_at maps k ≡ [] = none_past k s (entries_at maps k) key past (before_right (rows_below maps k) (rows (entries_at maps k)) (s, key) held) in
          ap (λ es. rows_below after k ++ rows es) (other_entries k (λ same. omega arith) ∙ none)
          ∙ append-nil (rows_below after k)
          ∙ earlier past
          ∙ ap (λ l. l ++ row ∷ []) (sym (append-nil (rows_below maps k)) ∙ ap (λ es. rows_below maps k ++ rows es) (sym none))

  pub put_behind : AllBefore (rows_of maps) (s, key) → rows_of after ≡ rows_of maps ++ row ∷ []
  put_behind before = ap (rows_below after) (length-set maps s (put_once m key bytes)) ∙ from_it (length maps) in_range before

-- the rows of a grid, after a share was put at one server
pub rows_put : (maps after : List Shares) (s : ℕ) (key : ShareKey) (bytes : List ℕ) → s < length maps → after ≡ with_changed s (λ m. put_once m key bytes) maps → AllBefore (rows_of maps) (s, key)
    → rows_of after ≡ rows_of maps ++ (s, (key, bytes)) ∷ []
rows_put maps after s key bytes in_range is before = by_case (slice_get_cases maps s).1
  where
    by_case : ((m : Shares) × (s < length maps) × (slice_get maps s ≡ Some m) × (get_or maps s m ≡ m)) ⊎ ((length maps ≤ s) × (slice_get maps s ≡ None)) → rows_of after ≡ rows_of maps ++ (s, (key, bytes)) ∷ []
    by_case (inl (m, lt, at, read)) =
        ap rows_of (is ∙ ap (λ o. option_map_or (λ n. slice_set maps s (put_once n key bytes)) o maps) at) ∙ put_behind maps s m key bytes in_range at before
    by_case (inr h) = absurd (omega arith)
