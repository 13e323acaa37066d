-- The lanes have room for one that stands in none, where there is room for all that are open.
use Rattle.std.proofs.Common.{◌≡◌, ℕ, ◌+◌, ◌<◌, ◌≤◌, List, [], ◌∷◌, ◌++◌, length, true, false, ◌||◌, nat_eq, ne_eqb, eq-eqb, refl, sym, ap, subst, ◌∙◌, Option, Some, None, arith, length-append, inl, inr}
use Rattle.std.proofs.lemmas.Bool.{cases_eq}
use Rattle.std.proofs.lemmas.Cmp.{eq_by_cmp_equiv, nat_cmp_total}
use Rattle.std.proofs.lemmas.Map.Steps.{length-le_from_keys}
use Rattle.std.specs.Cmp.{unsigned_tied}
use Rattle.std.specs.List.{IsDistinct, AllByRecursion, list_any}
use Rattle.std.specs.Option.{IsSome}
use Rattle.std.specs.Ordering.{nat_cmp, eq_by_cmp}
use Rattle.gate_turns.specs.declared.seat.Seat.{Seat}
use Rattle.gate_turns.specs.declared.seat.Lane.{Lane}
use Rattle.gate_turns.specs.declared.seat.Lane.TheVariants.{Quick, Fresh, Slow}
use Rattle.gate_turns.specs.Lanes.{LanesState, queued_count}
use Rattle.gate_turns.specs.Turns.{IsSeated, seat_in, times_in, times_of}
use Rattle.gate_turns.proofs.Seating.{one_lane}

none_left : (x y : ℕ) (ys : List ℕ) → times_in x (y ∷ ys) ≡ 0 → times_in x ys ≡ 0
none_left x y ys none = omega (arith, none)

none_first : (x y : ℕ) (ys : List ℕ) → times_in x (y ∷ ys) ≡ 0 → nat_eq x y ≡ false
none_first x y ys none = elim (cases_eq x y) [
  | inl same ↦ grind (arith, none, eq-eqb y x (sym same))
  | inr ne ↦ ne_eqb x y ne
]

absent_all : (x : ℕ) (xs : List ℕ) → times_in x xs ≡ 0 → AllByRecursion (λ y. eq_by_cmp nat_cmp x y ≡ false) xs
absent_all x [] none = tt
absent_all x (y ∷ ys) none = (unsigned_tied x y ∙ none_first x y ys none, absent_all x ys (none_left x y ys none))

once_first : (x : ℕ) (xs : List ℕ) → times_in x (x ∷ xs) ≤ 1 → times_in x xs ≡ 0
once_first x xs once = grind (arith, once, eq-eqb x x refl)

once_left : (q x : ℕ) (xs : List ℕ) → times_in q (x ∷ xs) ≤ 1 → times_in q xs ≤ 1
once_left q x xs once = omega (arith, once)

distinct : (xs : List ℕ) → ((q : ℕ) → times_in q xs ≤ 1) → IsDistinct (eq_by_cmp nat_cmp) xs
unfolding IsDistinct
distinct [] once = tt
distinct (x ∷ xs) once = (absent_all x xs (once_first x xs (once x)), distinct xs (λ q. once_left q x xs (once q)))

member_times : (q : ℕ) (xs : List ℕ) → list_any (eq_by_cmp nat_cmp q) xs ≡ true → 1 ≤ times_in q xs
member_times q [] is = grind (arith, is)
member_times q (y ∷ ys) is = elim (cases_eq q y) [
  | inl same ↦ grind (arith, eq-eqb y q (sym same))
  | inr ne ↦ omega (arith, member_times q ys (sym (ap (λ b. b || list_any (eq_by_cmp nat_cmp q) ys) (unsigned_tied q y ∙ ne_eqb q y ne)) ∙ is))
]

times_append : (q : ℕ) (xs ys : List ℕ) → times_in q (xs ++ ys) ≡ times_in q xs + times_in q ys
times_append q [] ys = omega arith
times_append q (x ∷ xs) ys = omega (arith, times_append q xs ys)

whole : LanesState → List ℕ
whole s = s.quick ++ (s.fresh ++ s.slow)

whole_times : (q : ℕ) (s : LanesState) → times_in q (whole s) ≡ times_in q s.quick + times_in q s.fresh + times_in q s.slow
unfolding whole
whole_times q s = omega (arith, times_append q s.quick (s.fresh ++ s.slow), times_append q s.fresh s.slow)

whole_length : (s : LanesState) → length (whole s) ≡ queued_count s
unfolding whole
whole_length s = grind (arith, length-append)

sum_of : Option Seat → ℕ
sum_of o = times_of Quick o + times_of Fresh o + times_of Slow o

no_one : 1 ≤ 0 + 0 + 0 → ⊥
no_one some = omega (arith, some)

no_sum : (o : Option Seat) → ((l : Lane) → times_of l o ≡ 0) → sum_of o ≡ 0
unfolding sum_of
no_sum o none = omega (arith, none Quick, none Fresh, none Slow)

sum_within : (o : Option Seat) → sum_of o ≤ 1
unfolding sum_of
sum_within None = omega arith
sum_within (Some seat) = one_lane seat.place

sum_some : (o : Option Seat) → 1 ≤ sum_of o → IsSome o
unfolding sum_of
sum_some None some = elim (no_one some) [ ]
sum_some (Some seat) some = refl

whole_sum : (seats : List (ℕ × Seat)) (s : LanesState) (turn : Option ℕ) (q : ℕ) → IsSeated seats s turn → times_in q (whole s) ≡ sum_of (seat_in seats q)
unfolding sum_of
whole_sum seats s turn q was = omega (arith, whole_times q s, was.queued Quick q, was.queued Fresh q, was.queued Slow q)

with_one : (seats : List (ℕ × Seat)) (s : LanesState) (turn : Option ℕ) (id : ℕ) → IsSeated seats s turn → sum_of (seat_in seats id) ≡ 0 → (q : ℕ) → times_in q (id ∷ whole s) ≤ 1
with_one seats s turn id was none q = elim (cases_eq id q) [
  | inl same ↦ subst (λ (x : ℕ). times_in x (id ∷ whole s) ≤ 1) same (grind (arith, whole_sum seats s turn id was, none, eq-eqb id id refl))
  | inr ne ↦ grind (arith, whole_sum seats s turn q was, sum_within (seat_in seats q), ne_eqb id q ne)
]

all_open : (seats : List (ℕ × Seat)) (s : LanesState) (turn : Option ℕ) (id : ℕ) → IsSeated seats s turn → IsSome (seat_in seats id) → (q : ℕ) → 1 ≤ times_in q (id ∷ whole s) → IsSome (seat_in seats q)
all_open seats s turn id was has q some = elim (cases_eq id q) [
  | inl same ↦ subst (λ (x : ℕ). IsSome (seat_in seats x)) same has
  | inr ne ↦ sum_some (seat_in seats q) (grind (arith, whole_sum seats s turn q was, some, ne_eqb id q ne))
]

-- with one that stands in no lane, more are open than stand in lanes
more_open : (seats : List (ℕ × Seat)) (s : LanesState) (turn : Option ℕ) (id : ℕ) → IsSeated seats s turn → IsSome (seat_in seats id) → ((l : Lane) → times_of l (seat_in seats id) ≡ 0) → queued_count s < length seats
more_open seats s turn id was has nowhere =
    omega (
      arith,
      whole_length s,
      length-le_from_keys (eq_by_cmp_equiv nat_cmp_total) (id ∷ whole s) seats
          (distinct (id ∷ whole s) (with_one seats s turn id was (no_sum (seat_in seats id) nowhere)))
          (λ q is. all_open seats s turn id was has q (member_times q (id ∷ whole s) is)),
    )

-- so there is room for it
pub room_left : (seats : List (ℕ × Seat)) (s : LanesState) (turn : Option ℕ) (id : ℕ) → IsSeated seats s turn → IsSome (seat_in seats id) → ((l : Lane) → times_of l (seat_in seats id) ≡ 0) → queued_count s < s.room
room_left seats s turn id was has nowhere = omega (arith, more_open seats s turn id was has nowhere, was.within)

queued_once : (seats : List (ℕ × Seat)) (s : LanesState) (turn : Option ℕ) → IsSeated seats s turn → (q : ℕ) → times_in q (whole s) ≤ 1
queued_once seats s turn was q = omega (arith, whole_sum seats s turn q was, sum_within (seat_in seats q))

queued_open : (seats : List (ℕ × Seat)) (s : LanesState) (turn : Option ℕ) → IsSeated seats s turn → (q : ℕ) → 1 ≤ times_in q (whole s) → IsSome (seat_in seats q)
queued_open seats s turn was q some = sum_some (seat_in seats q) (omega (arith, whole_sum seats s turn q was, some))

-- no more stand in lanes than are open
pub all_open_left : (seats : List (ℕ × Seat)) (s : LanesState) (turn : Option ℕ) → IsSeated seats s turn → queued_count s ≤ length seats
all_open_left seats s turn was =
    omega (
      arith,
      whole_length s,
      length-le_from_keys (eq_by_cmp_equiv nat_cmp_total) (whole s) seats
          (distinct (whole s) (queued_once seats s turn was))
          (λ q is. queued_open seats s turn was q (member_times q (whole s) is)),
    )
