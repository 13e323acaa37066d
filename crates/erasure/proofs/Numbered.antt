-- The numbers and the blocks of numbered blocks, place by place, and a table of the numbers that were seen.
use Rattle.std.proofs.Common.{◌≡◌, ◌≢◌, ℕ, zero, suc, ◌+◌, ◌<◌, ◌≤◌, Bool, true, false, List, [], ◌∷◌, length, get_or, slice_index, slice_index_or, slice_set, replicate, All, Bor, refl, sym, ap, ◌∙◌, arith, inl, inr}
use Rattle.std.proofs.lemmas.List.{get_or-set_same, get_or-set_other, get_or_default, length-set}
use Rattle.std.proofs.lemmas.Bool.{cases_lt, cases_eq}
use Rattle.erasure.specs.Blocks.{size_of}
use Rattle.erasure.specs.Given.{numbered_of, numbers_of, blocks_of, AreDistinct, AreNumbers, Repeats, HaveOneLength, HasAnotherLength}

-- what a read past the end stands for
abbrev pub nothing : ℕ × Bor (List ℕ)
nothing = (0, record { ref_ptr = (0, 0); now = [] })

pub length-numbers_of : (given : List (ℕ × Bor (List ℕ))) → length (numbers_of (numbered_of given)) ≡ length given
length-numbers_of [] = refl
length-numbers_of (g ∷ gs) = ap suc (length-numbers_of gs)

pub length-blocks_of : (given : List (ℕ × Bor (List ℕ))) → length (blocks_of (numbered_of given)) ≡ length given
length-blocks_of [] = refl
length-blocks_of (g ∷ gs) = ap suc (length-blocks_of gs)

pub number_at : (given : List (ℕ × Bor (List ℕ))) (i : ℕ) (d : ℕ × Bor (List ℕ)) → i < length given
    → slice_index (numbers_of (numbered_of given)) i ≡ (get_or given i d).0
number_at [] i d lt = absurd (omega arith)
number_at (g ∷ gs) zero d lt = refl
number_at (g ∷ gs) (suc i) d lt = number_at gs i d (omega arith)

pub block_at : (given : List (ℕ × Bor (List ℕ))) (i : ℕ) (d : ℕ × Bor (List ℕ)) → i < length given
    → slice_index_or (blocks_of (numbered_of given)) i [] ≡ (get_or given i d).1.now
block_at [] i d lt = absurd (omega arith)
block_at (g ∷ gs) zero d lt = refl
block_at (g ∷ gs) (suc i) d lt = block_at gs i d (omega arith)

-- ---- the table of numbers that were seen among the first n
pub record Marks (numbers : List ℕ) (seen : List Bool) (n : ℕ) : Type 0 where
  pub long : length seen ≡ 256
  pub marked : (i : ℕ) → i < n → get_or seen (slice_index numbers i) false ≡ true
  pub only : (v : ℕ) → get_or seen v false ≡ true → (i : ℕ) × (i < n) × (slice_index numbers i ≡ v)
  pub apart : (i j : ℕ) → i < j → j < n → slice_index numbers i ≢ slice_index numbers j

none_marked : (n v : ℕ) → get_or (replicate n false) v false ≡ false
none_marked zero v = refl
none_marked (suc n) zero = refl
none_marked (suc n) (suc v) = none_marked n v

pub marks_start : (numbers : List ℕ) → Marks numbers (replicate 256 false) 0
marks_start numbers = record {
  long = refl;
  marked = λ i lt. absurd (omega arith);
  only = λ v h. let no : false ≡ true = sym (none_marked 256 v) ∙ h in cc;
  apart = λ i j lt less. absurd (omega arith);
}

pub marks_found : (numbers : List ℕ) (seen : List Bool) (n : ℕ) → Marks numbers seen n → n < length numbers
    → get_or seen (slice_index numbers n) false ≡ true → Repeats numbers
marks_found numbers seen n m lt h =
    let found = m.only (slice_index numbers n) h in
    (found.0, n, found.1, lt, found.2)

pub marks_next : (numbers : List ℕ) (seen : List Bool) (n : ℕ) → Marks numbers seen n → slice_index numbers n < 256
    → get_or seen (slice_index numbers n) false ≡ false → Marks numbers (slice_set seen (slice_index numbers n) true) (n + 1)
marks_next numbers seen n m small h =
    let v : ℕ = slice_index numbers n in
    let here : v < length seen = omega (arith, m.long) in
    record {
      long = length-set seen v true ∙ m.long;
      marked = λ i lt. elim (cases_eq (slice_index numbers i) v) [
        | inl same ↦ ap (λ (w : ℕ). get_or (slice_set seen v true) w false) same ∙ get_or-set_same seen v true false here
        | inr other ↦
            get_or-set_other seen v (slice_index numbers i) true false other
            ∙ elim (cases_lt i n) [
              | inl before ↦ m.marked i before
              | inr rest ↦ let e : i ≡ n = omega arith in absurd (other (ap (slice_index numbers) e))
            ]
      ];
      only = λ w hw. elim (cases_eq w v) [
        | inl same ↦ (n, omega arith, sym same)
        | inr other ↦
            let old = m.only w (sym (get_or-set_other seen v w true false other) ∙ hw) in
            (old.0, omega (arith, old.1), old.2)
      ];
      apart = λ i j lt less. elim (cases_lt j n) [
        | inl before ↦ m.apart i j lt before
        | inr rest ↦ λ e.
            let last : j ≡ n = omega arith in
            let mark : get_or seen (slice_index numbers i) false ≡ true = m.marked i (omega arith) in
            let no : false ≡ true = sym h ∙ ap (λ (w : ℕ). get_or seen w false) (sym (e ∙ ap (slice_index numbers) last)) ∙ mark in
            cc
      ];
    }

pub marks_end : (numbers : List ℕ) (seen : List Bool) (n : ℕ) → Marks numbers seen n → length numbers ≤ n → Repeats numbers → ⊥
marks_end numbers seen n m le r = m.apart r.0 r.1 r.2 (omega (arith, r.3)) r.4

-- no number stands twice where none repeats, and the other way round
pub distinct_or_repeats : (numbers : List ℕ) → (Repeats numbers → ⊥) → AreDistinct numbers
distinct_or_repeats numbers h i j d lt less e =
    h (i, j, lt, less, get_or_default numbers i 0 d (omega arith) ∙ e ∙ get_or_default numbers j d 0 less)

pub one_length_or_another : (blocks : List (List ℕ)) → (HasAnotherLength blocks → ⊥) → HaveOneLength blocks
one_length_or_another blocks h k d lt =
    elim (cases_eq (length (slice_index_or blocks k [])) (size_of blocks)) [
      | inl same ↦ ap length (get_or_default blocks k d [] lt) ∙ same
      | inr other ↦ absurd (h (k, lt, other))
    ]

pub are_numbers : (given : List (ℕ × Bor (List ℕ))) → All (λ g. g.0 < 256) given → (Repeats (numbers_of (numbered_of given)) → ⊥)
    → AreNumbers (numbers_of (numbered_of given))
are_numbers given small h = record {
  small = λ k d lt.
      let inside : k < length given = omega (arith, length-numbers_of given) in
      let at = number_at given k nothing inside in
      let below = small k nothing inside in
      let same = get_or_default (numbers_of (numbered_of given)) k d 0 lt in
      omega (arith, at, below, same);
  distinct = distinct_or_repeats (numbers_of (numbered_of given)) h;
}
