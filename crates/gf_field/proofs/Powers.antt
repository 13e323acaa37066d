-- Powers in the field: 2 has order 255 and its powers are all bytes but 0, so each of these has an inverse.
use Rattle.std.proofs.Common.{◌≢◌, ◌-◌, ◌≡◌, ℕ, zero, suc, ◌+◌, ◌<◌, ◌==◌, Bool, true, false, not, ◌&&◌, ◌||◌, List, [], ◌∷◌, refl, sym, ap, ◌∙◌, arith, inl, inr, zero-add}
use Rattle.std.proofs.Math.Nat.{suc-add}
use Rattle.std.specs.List.{list_all}
use Rattle.std.proofs.lemmas.Bool.{and_parts, or_cases, eqb-true, eqb-false, not-true, cases_lt}
use Rattle.gf_field.specs.Field.{mul_of, power_of, inverse_of}
use Rattle.gf_field.proofs.Field.{mul_of-zero_left, mul_of-comm, mul_of-assoc, mul_of-one_left, mul_of-one_right, mul_of-lt}

pub power-zero : (a : ℕ) → power_of a 0 ≡ 1
unfolding power_of
power-zero a = refl

pub power-suc : (a n : ℕ) → power_of a (suc n) ≡ mul_of a (power_of a n)
unfolding power_of
power-suc a n = refl

pub power_lt : (a n : ℕ) → power_of a n < 256
power_lt a zero = rw power-zero (omega arith)
power_lt a (suc n) = rw power-suc (mul_of-lt a (power_of a n))

pub power-add : (a m n : ℕ) → power_of a (m + n) ≡ mul_of (power_of a m) (power_of a n)
power-add a zero n = ap (power_of a) (zero-add n) ∙ sym (ap (λ (x : ℕ). mul_of x (power_of a n)) (power-zero a) ∙ mul_of-one_left (power_of a n) (power_lt a n))
power-add a (suc m) n =
    ap (power_of a) (suc-add m n)
    ∙ power-suc a (m + n)
    ∙ ap (mul_of a) (power-add a m n)
    ∙ sym (ap (λ (x : ℕ). mul_of x (power_of a n)) (power-suc a m) ∙ mul_of-assoc a (power_of a m) (power_of a n))

-- the middle two of four factors change places
mul_of_middle : (a b c d : ℕ) → mul_of (mul_of a b) (mul_of c d) ≡ mul_of (mul_of a c) (mul_of b d)
mul_of_middle a b c d =
    mul_of-assoc a b (mul_of c d)
    ∙ ap (mul_of a) (sym (mul_of-assoc b c d) ∙ ap (λ (x : ℕ). mul_of x d) (mul_of-comm b c) ∙ mul_of-assoc c b d)
    ∙ sym (mul_of-assoc a c (mul_of b d))

power-mul : (a b n : ℕ) → power_of (mul_of a b) n ≡ mul_of (power_of a n) (power_of b n)
power-mul a b zero =
    power-zero (mul_of a b)
    ∙ sym (ap (λ (x : ℕ). mul_of x (power_of b 0)) (power-zero a) ∙ ap (mul_of 1) (power-zero b) ∙ mul_of-one_left 1 (omega arith))
power-mul a b (suc n) =
    power-suc (mul_of a b) n
    ∙ ap (mul_of (mul_of a b)) (power-mul a b n)
    ∙ mul_of_middle a b (power_of a n) (power_of b n)
    ∙ sym (ap (λ (x : ℕ). mul_of x (power_of b (suc n))) (power-suc a n) ∙ ap (mul_of (mul_of a (power_of a n))) (power-suc b n))

power_of_one : (n : ℕ) → power_of 1 n ≡ 1
power_of_one zero = power-zero 1
power_of_one (suc n) = power-suc 1 n ∙ ap (mul_of 1) (power_of_one n) ∙ mul_of-one_left 1 (omega arith)

-- ---- the powers of two
pub two_returns : power_of 2 255 ≡ 1
unfolding mul_of power_of
two_returns = refl

-- b, 2 b, 4 b and so on
abbrev doublings : ℕ → ℕ → List ℕ
doublings zero b = []
doublings (suc n) b = b ∷ doublings n (mul_of 2 b)

abbrev has : List ℕ → ℕ → Bool
has [] a = false
has (b ∷ bs) a = (b == a) || has bs a

abbrev has_below : List ℕ → ℕ → Bool
has_below bs zero = true
has_below bs (suc n) = ((n == 0) || has bs n) && has_below bs n

next_double : (i b : ℕ) → mul_of (power_of 2 i) (mul_of 2 b) ≡ mul_of (power_of 2 (suc i)) b
next_double i b =
    sym (mul_of-assoc (power_of 2 i) 2 b)
    ∙ ap (λ (x : ℕ). mul_of x b) (mul_of-comm (power_of 2 i) 2 ∙ sym (power-suc 2 i))

has_doublings : (n b a : ℕ) → b < 256 → has (doublings n b) a ≡ true → (i : ℕ) × (i < n) × (mul_of (power_of 2 i) b ≡ a)
has_doublings zero b a lt h = cc
has_doublings (suc n) b a lt h = elim (or_cases (b == a) (has (doublings n (mul_of 2 b)) a) h) [
  | inl here ↦ (0, omega arith, ap (λ (x : ℕ). mul_of x b) (power-zero 2) ∙ mul_of-one_left b lt ∙ eqb-true b a here)
  | inr later ↦
      let found = has_doublings n (mul_of 2 b) a (mul_of-lt 2 b) later in
      (suc found.0, omega (arith, found.1), sym (next_double found.0 b) ∙ found.2)
]

has_at : (bs : List ℕ) (n a : ℕ) → has_below bs n ≡ true → a < n → 0 < a → has bs a ≡ true
has_at bs zero a h lt pos = absurd (omega arith)
has_at bs (suc n) a h lt pos =
    let parts = and_parts ((n == 0) || has bs n) (has_below bs n) h in
    elim (cases_lt a n) [
      | inl below ↦ has_at bs n a parts.1 below pos
      | inr top ↦
          let e : a ≡ n = omega arith in
          elim (or_cases (n == 0) (has bs n) parts.0) [
            | inl none ↦ let no = eqb-true n 0 none in absurd (omega arith)
            | inr found ↦ rw e found
          ]
    ]

has_all : has_below (doublings 255 1) 256 ≡ true
unfolding mul_of
has_all = refl

-- each byte but 0 is a power of 2
pub two_generates : (a : ℕ) → 0 < a → a < 256 → (i : ℕ) × (i < 255) × (power_of 2 i ≡ a)
two_generates a pos lt =
    let found = has_doublings 255 1 a (omega arith) (has_at (doublings 255 1) 256 a has_all lt pos) in
    (found.0, found.1, sym (mul_of-one_right (power_of 2 found.0) (power_lt 2 found.0)) ∙ found.2)

none_one : list_all (λ x. not (x == 1)) (doublings 254 2) ≡ true
unfolding mul_of
none_one = refl

all_doublings : (n b i : ℕ) → b < 256 → list_all (λ x. not (x == 1)) (doublings n b) ≡ true → i < n → mul_of (power_of 2 i) b ≡ 1 → ⊥
all_doublings zero b i lt h less e = absurd (omega arith)
all_doublings (suc n) b zero lt h less e =
    let here = and_parts (not (b == 1)) (list_all (λ x. not (x == 1)) (doublings n (mul_of 2 b))) h in
    eqb-false b 1 (not-true (b == 1) here.0) (sym (mul_of-one_left b lt) ∙ ap (λ (x : ℕ). mul_of x b) (sym (power-zero 2)) ∙ e)
all_doublings (suc n) b (suc i) lt h less e =
    let parts = and_parts (not (b == 1)) (list_all (λ x. not (x == 1)) (doublings n (mul_of 2 b))) h in
    all_doublings n (mul_of 2 b) i (mul_of-lt 2 b) parts.1 (omega arith) (next_double i b ∙ e)

-- 2 to the i isn't 1 where i is above 0 and below 255
pub two_returns_late : (i : ℕ) → 0 < i → i < 255 → power_of 2 i ≡ 1 → ⊥
two_returns_late zero pos lt e = absurd (omega arith)
two_returns_late (suc i) pos lt e =
    all_doublings 254 2 i (omega arith) none_one (omega arith) (mul_of-comm (power_of 2 i) 2 ∙ sym (power-suc 2 i) ∙ e)

-- ---- inverses
power_returns : (i : ℕ) → power_of (power_of 2 i) 255 ≡ 1
power_returns zero = ap (λ (x : ℕ). power_of x 255) (power-zero 2) ∙ power_of_one 255
power_returns (suc i) =
    ap (λ (x : ℕ). power_of x 255) (power-suc 2 i)
    ∙ power-mul 2 (power_of 2 i) 255
    ∙ ap (λ (x : ℕ). mul_of x (power_of (power_of 2 i) 255)) two_returns
    ∙ ap (mul_of 1) (power_returns i)
    ∙ mul_of-one_left 1 (omega arith)

pub inverse_lt : (a : ℕ) → inverse_of a < 256
unfolding inverse_of
inverse_lt a = power_lt a 254

pub mul_of-inverse : (a : ℕ) → 0 < a → a < 256 → mul_of a (inverse_of a) ≡ 1
unfolding inverse_of
mul_of-inverse a pos lt =
    let found = two_generates a pos lt in
    sym (power-suc a 254) ∙ ap (λ (x : ℕ). power_of x 255) (sym found.2) ∙ power_returns found.0

-- a factor that isn't 0 cancels
pub mul_of_cancels : (a b c : ℕ) → 0 < a → a < 256 → b < 256 → c < 256 → mul_of a b ≡ mul_of a c → b ≡ c
mul_of_cancels a b c pos lt hb hc e =
    let back : (x : ℕ) → x < 256 → mul_of (inverse_of a) (mul_of a x) ≡ x =
    λ x hx. sym (mul_of-assoc (inverse_of a) a x)
    ∙ ap (λ (y : ℕ). mul_of y x) (mul_of-comm (inverse_of a) a ∙ mul_of-inverse a pos lt)
    ∙ mul_of-one_left x hx in
    sym (back b hb) ∙ ap (mul_of (inverse_of a)) e ∙ back c hc

-- the inverse is the only byte whose product with a is 1
pub inverse_only : (a b : ℕ) → 0 < a → a < 256 → b < 256 → mul_of a b ≡ 1 → b ≡ inverse_of a
inverse_only a b pos lt hb e = mul_of_cancels a b (inverse_of a) pos lt hb (inverse_lt a) (e ∙ sym (mul_of-inverse a pos lt))

-- ---- the powers of two are apart
power_returns_all : (i : ℕ) → mul_of (power_of 2 i) (inverse_of (power_of 2 i)) ≡ 1
unfolding inverse_of
power_returns_all i = sym (power-suc (power_of 2 i) 254) ∙ power_returns i

pub power_pos : (i : ℕ) → 0 < power_of 2 i
power_pos i =
    let apart : power_of 2 i ≢ 0 =
    λ e. let no : ◌≡◌ {A = ℕ} 0 1 = sym (mul_of-zero_left (inverse_of (power_of 2 i))) ∙ ap (λ (x : ℕ). mul_of x (inverse_of (power_of 2 i))) (sym e) ∙ power_returns_all i in
    absurd (omega arith) in
    omega arith

later_power : (i j : ℕ) → i < j → j < 255 → power_of 2 i ≡ power_of 2 j → ⊥
later_power i j lt less e =
    let sum : i + (j - i) ≡ j = omega arith in
    two_returns_late (j - i) (omega arith) (omega arith)
    (sym (mul_of_cancels (power_of 2 i) 1 (power_of 2 (j - i)) (power_pos i) (power_lt 2 i) (omega arith) (power_lt 2 (j - i))
    (mul_of-one_right (power_of 2 i) (power_lt 2 i) ∙ e ∙ ap (power_of 2) (sym sum) ∙ power-add 2 i (j - i))))

pub powers_apart : (i j : ℕ) → i < 255 → j < 255 → power_of 2 i ≡ power_of 2 j → i ≡ j
powers_apart i j hi hj e = elim (cases_lt i j) [
  | inl before ↦ absurd (later_power i j before hj e)
  | inr rest ↦ elim (cases_lt j i) [
    | inl after ↦ absurd (later_power j i after hi (sym e))
    | inr same ↦ omega arith
  ]
]
