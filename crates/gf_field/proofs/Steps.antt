-- What one step of each loop does: a doubling, a term of a product, a square.
use Rattle.std.proofs.Common.{◌≡◌, ℕ, suc, ◌+◌, ◌-◌, ◌*◌, ◌/◌, ◌%◌, ◌^◌, ◌<◌, ◌≤◌, ◌==◌, true, ◌≢◌, refl, sym, ap, ◌∙◌, subst, arith, add-one}
use Rattle.std.proofs.Math.Nat.{zero-mul, one-mul, pow-suc}
use Rattle.std.proofs.Math.Pow.{pow_pos}
use Rattle.std.specs.Int.{bit_at}
use Rattle.std.specs.Int.Bits.{bit_and, bit_xor, xor_zero_r}
use Rattle.std.proofs.lemmas.Nat.Bits.{bit_at-lt, shr_and_one}
use Rattle.std.proofs.lemmas.Bool.{eqb-true}
use Rattle.gf_field.specs.Field.{xor_below, mul_of, power_of, inverse_of}
use Rattle.gf_field.proofs.Bits.{holds_below, holds_at, bit_at_low, xor_below-same, additive_spread}
use Rattle.gf_field.proofs.Field.{mul_of-comm, mul_of-assoc, left_factor}
use Rattle.gf_field.proofs.Powers.{power-suc, power-add}

-- ---- doubling
low_doubles : holds_below (λ a. a * 2 % 256 == mul_of 2 a) 128 ≡ true
unfolding mul_of
low_doubles = refl

high_doubles : holds_below (λ a. bit_xor ((128 + a) * 2 % 256) 29 == mul_of 2 (128 + a)) 128 ≡ true
unfolding mul_of
high_doubles = refl

pub low_double : (a : ℕ) → a < 128 → a * 2 % 256 ≡ mul_of 2 a
low_double a lt = eqb-true (a * 2 % 256) (mul_of 2 a) (holds_at (λ a. a * 2 % 256 == mul_of 2 a) 128 a low_doubles lt)

pub high_double : (a : ℕ) → 128 ≤ a → a < 256 → bit_xor (a * 2 % 256) 29 ≡ mul_of 2 a
high_double a ge lt =
    let e : 128 + (a - 128) ≡ a = omega arith in
    let at = eqb-true (bit_xor ((128 + (a - 128)) * 2 % 256) 29) (mul_of 2 (128 + (a - 128)))
    (holds_at (λ a. bit_xor ((128 + a) * 2 % 256) 29 == mul_of 2 (128 + a)) 128 (a - 128) high_doubles (omega arith)) in
    subst (λ (x : ℕ). bit_xor (x * 2 % 256) 29 ≡ mul_of 2 x) e at

-- 2 to the i, after one more doubling
pub power_step : (i : ℕ) → mul_of 2 (power_of 2 i) ≡ power_of 2 (i + 1)
power_step i = sym (power-suc 2 i) ∙ ap (power_of 2) (sym (add-one i))

-- ---- a product, term by term
-- the terms of b below x^i, by a
abbrev pub terms_of : ℕ → ℕ → ℕ → ℕ
terms_of a b i = xor_below i (λ j. bit_at b j * mul_of (power_of 2 j) a)

pub term_there : (a b i product term : ℕ) → product ≡ terms_of a b i → term ≡ mul_of (power_of 2 i) a
    → bit_and (b / 2 ^ i) 1 ≡ 1 → bit_xor product term ≡ terms_of a b (i + 1)
term_there a b i product term hp ht h =
    let bit : bit_at b i ≡ 1 = sym (shr_and_one b i) ∙ h in
    ap (λ (x : ℕ). bit_xor x term) hp
    ∙ ap (bit_xor (terms_of a b i)) (ht ∙ sym (ap (λ (x : ℕ). x * mul_of (power_of 2 i) a) bit ∙ one-mul (mul_of (power_of 2 i) a)))
    ∙ ap (terms_of a b) (sym (add-one i))

pub term_absent : (a b i product : ℕ) → product ≡ terms_of a b i
    → bit_and (b / 2 ^ i) 1 ≢ 1 → product ≡ terms_of a b (i + 1)
term_absent a b i product hp h =
    let apart : bit_at b i ≢ 1 = λ e. h (shr_and_one b i ∙ e) in
    let small = bit_at-lt b i in
    let bit : bit_at b i ≡ 0 = omega arith in
    hp
    ∙ sym (ap (bit_xor (terms_of a b i)) (ap (λ (x : ℕ). x * mul_of (power_of 2 i) a) bit ∙ zero-mul (mul_of (power_of 2 i) a)) ∙ xor_zero_r (terms_of a b i))
    ∙ ap (terms_of a b) (sym (add-one i))

pub next_term : (a i term : ℕ) → term ≡ mul_of (power_of 2 i) a → mul_of 2 term ≡ mul_of (power_of 2 (i + 1)) a
next_term a i term h = ap (mul_of 2) h ∙ sym (mul_of-assoc 2 (power_of 2 i) a) ∙ ap (λ (x : ℕ). mul_of x a) (power_step i)

first_powers : holds_below (λ i. power_of 2 i == 2 ^ i) 8 ≡ true
unfolding mul_of power_of
first_powers = refl

pub all_terms : (a b : ℕ) → terms_of a b 8 ≡ mul_of a b
all_terms a b =
    xor_below-same 8 (λ j. bit_at b j * mul_of (power_of 2 j) a) (λ j. bit_at (b % 256) j * mul_of (2 ^ j) a)
    (λ j lt.
    ap (λ (x : ℕ). x * mul_of (power_of 2 j) a) (sym (bit_at_low b j lt))
    ∙ ap (λ (x : ℕ). bit_at (b % 256) j * mul_of x a) (eqb-true (power_of 2 j) (2 ^ j) (holds_at (λ i. power_of 2 i == 2 ^ i) 8 j first_powers lt)))
    ∙ sym (additive_spread (λ b. mul_of b a) (left_factor a) b)
    ∙ mul_of-comm b a

-- ---- an inverse, square by square
-- after i squares the product is a to the 2 + 4 + .. + 2^i
abbrev pub squares_to : ℕ → ℕ
squares_to i = 2 ^ i * 2 - 2

pub square_step : (a i square : ℕ) → square ≡ power_of a (2 ^ i) → mul_of square square ≡ power_of a (2 ^ (i + 1))
square_step a i square h =
    ap (λ (x : ℕ). mul_of x x) h
    ∙ sym (power-add a (2 ^ i) (2 ^ i))
    ∙ ap (power_of a) (let e : 2 ^ suc i ≡ 2 ^ i * 2 = pow-suc 2 i in let f : 2 ^ i + 2 ^ i ≡ 2 ^ suc i = omega arith in f ∙ ap (λ (x : ℕ). 2 ^ x) (sym (add-one i)))

pub product_step : (a i square product : ℕ) → square ≡ power_of a (2 ^ (i + 1)) → product ≡ power_of a (squares_to i)
    → mul_of product square ≡ power_of a (squares_to (i + 1))
product_step a i square product hs hp =
    ap (λ (x : ℕ). mul_of x square) hp
    ∙ ap (mul_of (power_of a (squares_to i))) hs
    ∙ sym (power-add a (squares_to i) (2 ^ (i + 1)))
    ∙ ap (power_of a)
    (let e : 2 ^ suc i ≡ 2 ^ i * 2 = pow-suc 2 i in
    let one_more : 2 ^ (i + 1) ≡ 2 ^ suc i = ap (λ (x : ℕ). 2 ^ x) (add-one i) in
    let pos : 0 < 2 ^ i = pow_pos i in
    omega arith)

pub inverse_made : (a product : ℕ) → product ≡ power_of a (squares_to 7) → product ≡ inverse_of a
unfolding inverse_of
inverse_made a product h = h
