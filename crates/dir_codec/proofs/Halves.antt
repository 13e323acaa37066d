-- What a binary search for a name finds.
use Rattle.std.proofs.Common.{◌≡◌, ◌⊎◌, inl, inr, ℕ, zero, suc, ◌<◌, ◌≤◌, false, List, [], ◌∷◌, length, get_or, Some, None, Result, Ok, Err, refl, sym, ap, ◌∙◌, arith}
use Rattle.std.proofs.lemmas.Bool.Decides.{leb_tells}
use Rattle.std.proofs.lemmas.Cmp.{nat_list_cmp_total}
use Rattle.std.proofs.lemmas.Map.Text.{is_eq-slice_cmp}
use Rattle.std.specs.Cmp.Lexicographic.{slice_cmp}
use Rattle.std.specs.Ordering.{nat_cmp, is_eq, ordering_index, ordering_reverse}
use Rattle.std.specs.Prelude.{bytes_eq, MatchOption}
use Rattle.std.specs.Result.{result_ok}
use Rattle.std.specs.List.Sorted.{IsNonDecreasingBy, IsPartitionPoint, IsSearchInRange, IsBinarySearchResult}
use Rattle.std.specs.declared.cmp.Ordering.{Ordering}
use Rattle.std.specs.declared.cmp.Ordering.TheVariants.{Less, Equal, Greater}
use Rattle.dir_codec.specs.Entries.{AreEntriesAbove}
use Rattle.dir_codec.specs.Find.{child_named, IsFoundAt}
use Rattle.dir_codec.specs.declared.entry.Entry.{Entry}

abbrev pub compared : List ℕ → Entry → Ordering
compared name entry = slice_cmp nat_cmp entry.name name

-- each entry is above what is below all of them
pub above_at : (name : List ℕ) (entries : List Entry) (i : ℕ) (d : Entry) → AreEntriesAbove name entries → i < length entries → slice_cmp nat_cmp name (get_or entries i d).name ≡ Less
above_at name [] i d all within = absurd (omega arith)
above_at name (entry ∷ more) zero d all within = all.0
above_at name (entry ∷ more) (suc i) d all within = nat_list_cmp_total.trans name entry.name _ all.0 (above_at entry.name more i d all.2 (omega arith))

-- a later entry is above an earlier one
pub rises : (name : List ℕ) (entries : List Entry) (i j : ℕ) (d : Entry) → AreEntriesAbove name entries → i < j → j < length entries → slice_cmp nat_cmp (get_or entries i d).name (get_or entries j d).name ≡ Less
rises name [] i j d all lt within = absurd (omega arith)
rises name (entry ∷ more) i zero d all lt within = absurd (omega arith)
rises name (entry ∷ more) zero (suc j) d all lt within = above_at entry.name more j d all.2 (omega arith)
rises name (entry ∷ more) (suc i) (suc j) d all lt within = rises entry.name more i j d all.2 (omega arith) (omega arith)

at_most_two : (r : Ordering) → ordering_index r ≤ 2
at_most_two Less = omega arith
at_most_two Equal = omega arith
at_most_two Greater = omega arith

-- two that are equal to a third compare alike
equal_alike : (a b name : List ℕ) → slice_cmp nat_cmp b name ≡ Equal → slice_cmp nat_cmp a b ≡ Less → slice_cmp nat_cmp a name ≡ Less
equal_alike a b name same less =
    nat_list_cmp_total.antisymm a name ∙ ap ordering_reverse (sym (nat_list_cmp_total.congr b name a same)) ∙ sym (nat_list_cmp_total.antisymm a b) ∙ less

compares_rise : (a b name : List ℕ) → slice_cmp nat_cmp a b ≡ Less → (r : Ordering) → slice_cmp nat_cmp b name ≡ r → ordering_index (slice_cmp nat_cmp a name) ≤ ordering_index r
compares_rise a b name lt Less is = rw (nat_list_cmp_total.trans a b name lt is) (omega arith)
compares_rise a b name lt Equal is = rw (equal_alike a b name is lt) (omega arith)
compares_rise a b name lt Greater is = at_most_two (slice_cmp nat_cmp a name)

-- comparisons with a name rise along the entries
pub comparisons_rise : (low name : List ℕ) (entries : List Entry) → AreEntriesAbove low entries → IsNonDecreasingBy (λ entry. ordering_index (compared name entry)) entries
comparisons_rise low name entries all i j d le within = by_case (grind arith)
  where
    by_case : (i ≡ j) ⊎ (i < j) → ordering_index (compared name (get_or entries i d)) ≤ ordering_index (compared name (get_or entries j d))
    by_case (inl same) = rw (ap (λ n. get_or entries n d) same) (omega arith)
    by_case (inr lt) = compares_rise (get_or entries i d).name (get_or entries j d).name name (rises low entries i j d all lt within) _ refl

-- names are told apart by their comparison
test_of : (a b : List ℕ) → bytes_eq a b ≡ is_eq (slice_cmp nat_cmp a b)
test_of a b = sym (is_eq-slice_cmp a b)

-- the entry at a place is found by its name
pub found_at : (low name : List ℕ) (entries : List Entry) (i : ℕ) (d : Entry) → AreEntriesAbove low entries → i < length entries → compared name (get_or entries i d) ≡ Equal → child_named name entries ≡ Some (get_or entries i d)
unfolding child_named
found_at low name [] i d all within is = absurd (omega arith)
found_at low name (entry ∷ more) zero d all within is = rw (test_of entry.name name, is) refl
found_at low name (entry ∷ more) (suc i) d all within is =
    let below : slice_cmp nat_cmp entry.name name ≡ Less = equal_alike entry.name (get_or more i d).name name is (above_at entry.name more i d all.2 (omega arith)) in
    rw (test_of entry.name name, below) (found_at entry.name name more i d all.2 (omega arith) is)

not_equal : (o : Ordering) → (o ≡ Equal → ⊥) → is_eq o ≡ false
not_equal Less other = refl
not_equal Equal other = absurd (other refl)
not_equal Greater other = refl

-- nothing is found where no name is equal
pub found_none : (name : List ℕ) (entries : List Entry) → ((i : ℕ) (d : Entry) → i < length entries → compared name (get_or entries i d) ≡ Equal → ⊥) → child_named name entries ≡ None
unfolding child_named
found_none name [] other = refl
found_none name (entry ∷ more) other =
    let here : is_eq (slice_cmp nat_cmp entry.name name) ≡ false = not_equal _ (other 0 entry (omega arith)) in
    rw (test_of entry.name name, here) (found_none name more (λ i d within. other (suc i) d (omega arith)))

apart : (o : Ordering) → (o ≡ Less) ⊎ (o ≡ Greater) → o ≡ Equal → ⊥
apart o (inl h) is = let e : Less ≡ Equal = sym h ∙ is in cc
apart o (inr h) is = let e : Greater ≡ Equal = sym h ∙ is in cc

nowhere : (name : List ℕ) (entries : List Entry) (i : ℕ) → AreEntriesAbove [] entries
    → (IsNonDecreasingBy (λ entry. ordering_index (compared name entry)) entries → IsPartitionPoint (λ entry. compared name entry ≡ Less) (λ entry. compared name entry ≡ Greater) entries i) → child_named name entries ≡ None
nowhere name entries i all parted =
    let part = parted (comparisons_rise [] name entries all) in
    let at_each : (j : ℕ) (d : Entry) → j < length entries → (compared name (get_or entries j d) ≡ Less) ⊎ (compared name (get_or entries j d) ≡ Greater) = λ j d within.
    elim (leb_tells i j) [ inl p ↦ inr (part.1 j d p.1 within) | inr p ↦ inl (part.0 j d (omega arith) (omega (arith, p.1))) ] in
    found_none name entries (λ j d within. apart _ (at_each j d within))

-- what a search answers
pub searched : (name : List ℕ) (entries : List Entry) (r : Result ℕ ℕ) → AreEntriesAbove [] entries → IsSearchInRange r (length entries) → IsBinarySearchResult (compared name) entries r
    → MatchOption (result_ok r) (child_named name entries ≡ None) (λ place. IsFoundAt name entries place)
searched name entries (Ok i) all within equal = (within, λ d. found_at [] name entries i d all within (equal d))
searched name entries (Err i) all within parted = nowhere name entries i all parted
