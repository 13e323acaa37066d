-- What one step does to each lane of a vector: a doubling, a masked term of a product.
use Rattle.std.proofs.Common.{◌≡◌, ℕ, zero, suc, ◌+◌, ◌*◌, ◌/◌, ◌%◌, ◌^◌, ◌<◌, ◌==◌, true, cond, List, [], ◌∷◌, map, length, replicate, refl, sym, ap, ◌∙◌, arith, w8, Fits}
use Rattle.std.proofs.Math.Nat.{zero-mul, one-mul}
use Rattle.std.specs.Int.{bit_at}
use Rattle.std.specs.Int.Bits.{bit_and, bit_xor}
use Rattle.std.specs.Simd.Lanes.{zip2, Each1, sel_l, top}
use Rattle.std.proofs.lemmas.Simd.{zip2_of_maps, splat_is_map, map-map}
use Rattle.std.proofs.lemmas.Nat.{and_mask}
use Rattle.std.proofs.lemmas.Nat.Bits.{bit_at-lt, shr_and_one}
use Rattle.std.proofs.lemmas.Bool.{eqb-true}
use Rattle.std.specs.Prelude.{nat_le}
use Rattle.gf_field.specs.Field.{mul_of, power_of}
use Rattle.gf_field.proofs.Bits.{holds_below, holds_at}
use Rattle.gf_field.proofs.Field.{mul_of-lt, mul_of-one_left}
use Rattle.gf_field.proofs.Powers.{power-zero}
use Rattle.gf_field.proofs.Steps.{terms_of, next_term, all_terms}

-- ---- doubling
abbrev doubles_at : ℕ → ℕ
doubles_at x = bit_xor ((x + x) % 2 ^ 8) (cond (top 7 (cond (nat_le 128 x) 255 0)) 29 0)

doubles : holds_below (λ x. doubles_at x == mul_of 2 x) 256 ≡ true
unfolding mul_of
doubles = refl

double_at : (x : ℕ) → x < 256 → doubles_at x ≡ mul_of 2 x
double_at x lt = eqb-true (doubles_at x) (mul_of 2 x) (holds_at (λ x. doubles_at x == mul_of 2 x) 256 x doubles lt)

pub doubled_lanes : (xs : List ℕ) → Each1 (Fits w8) xs
    → zip2 bit_xor (zip2 (λ x y. (x + y) % 2 ^ 8) xs xs)
    (sel_l (map (top 7) (zip2 (λ x y. cond (nat_le x y) 255 0) (replicate (length xs) 128) xs)) (replicate (length xs) 29) (replicate (length xs) 0))
    ≡ map (λ x. mul_of 2 x) xs
doubled_lanes [] fits = refl
doubled_lanes (x ∷ xs) fits = λ i. double_at x fits.0.fits i ∷ doubled_lanes xs fits.1 i

-- ---- a product, term by term
pub first_terms : (xs : List ℕ) → Each1 (Fits w8) xs → xs ≡ map (λ x. mul_of (power_of 2 0) x) xs
first_terms [] fits = refl
first_terms (x ∷ xs) fits =
    λ i. (sym (ap (λ (p : ℕ). mul_of p x) (power-zero 2) ∙ mul_of-one_left x fits.0.fits)) i ∷ first_terms xs fits.1 i

pub next_terms : (xs terms : List ℕ) (n : ℕ) → terms ≡ map (λ x. mul_of (power_of 2 n) x) xs
    → map (λ x. mul_of 2 x) terms ≡ map (λ x. mul_of (power_of 2 (n + 1)) x) xs
next_terms xs terms n e =
    ap (map (λ x. mul_of 2 x)) e
    ∙ map-map (λ x. mul_of 2 x) (λ x. mul_of (power_of 2 n) x) xs
    ∙ (λ i. map (λ x. next_term x n (mul_of (power_of 2 n) x) refl i) xs)

masked : (u x : ℕ) → u < 2 → x < 256 → bit_and x (u * 255) ≡ u * x
masked zero x hu lt = simp zero-mul (and_mask x 0 ∙ omega arith)
masked (suc zero) x hu lt =
    let low : x % 2 ^ 8 ≡ x = omega arith in
    let one : 1 * x ≡ x = one-mul x in
    and_mask x 8 ∙ low ∙ sym one
masked (suc (suc u)) x hu lt = absurd (omega arith)

-- a term, masked by its bit
masked_term : (c n x : ℕ) → bit_and (mul_of (power_of 2 n) x) (bit_and (c / 2 ^ n) 1 * 255) ≡ bit_at c n * mul_of (power_of 2 n) x
masked_term c n x =
    ap (λ (u : ℕ). bit_and (mul_of (power_of 2 n) x) (u * 255)) (shr_and_one c n)
    ∙ masked (bit_at c n) (mul_of (power_of 2 n) x) (bit_at-lt c n) (mul_of-lt (power_of 2 n) x)

pub more_terms : (xs products terms : List ℕ) (c n : ℕ) → length xs ≡ 32
    → products ≡ map (λ x. terms_of x c n) xs → terms ≡ map (λ x. mul_of (power_of 2 n) x) xs
    → zip2 bit_xor products (zip2 bit_and terms (replicate 32 (bit_and (c / 2 ^ n) 1 * 255))) ≡ map (λ x. terms_of x c (suc n)) xs
more_terms xs products terms c n long ep et =
    let mask : ℕ = bit_and (c / 2 ^ n) 1 * 255 in
    let there = zip2_of_maps bit_and (λ x. mul_of (power_of 2 n) x) (λ _. mask) xs et (splat_is_map xs 32 mask long) in
    zip2_of_maps bit_xor (λ x. terms_of x c n) (λ x. bit_and (mul_of (power_of 2 n) x) mask) xs ep there
    ∙ (λ i. map (λ x. bit_xor (terms_of x c n) (masked_term c n x i)) xs)

pub whole_products : (xs : List ℕ) (c : ℕ) → map (λ x. terms_of x c 8) xs ≡ map (λ x. mul_of x c) xs
whole_products xs c = λ i. map (λ x. all_terms x c i) xs
