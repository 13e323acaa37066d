-- The places of blocks, and the weights of values there.
use Rattle.std.proofs.Common.{◌≡◌, ℕ, zero, suc, ◌+◌, ◌-◌, ◌<◌, ◌==◌, cond, Option, Some, None, IsNone, IfSome, unwrap_or, ◌↔◌, List, slice_index, refl, sym, ap, ◌∙◌, arith, add-one, length}
use Rattle.std.specs.Int.Bits.{bit_xor}
use Rattle.std.proofs.lemmas.Bool.{eq-eqb, ne_eqb}
use Rattle.gf_field.specs.Field.{mul_of, power_of, inverse_of}
use Rattle.gf_field.proofs.Field.{mul_of-assoc, mul_of-zero_left, mul_of-one_right}
use Rattle.gf_field.proofs.Powers.{power-suc, power_lt, power_pos, powers_apart}
use Rattle.erasure.specs.Code.{place_of}
use Rattle.erasure.specs.Blocks.{mul_below, distance_of, whole_distance_of}
use Rattle.erasure.proofs.Sums.{mul_below_lt, mul_below_but}

pub place-zero : place_of 0 ≡ 0
unfolding place_of
place-zero = refl

pub place-suc : (i : ℕ) → place_of (suc i) ≡ power_of 2 i
unfolding place_of
place-suc i = refl

pub place_at : (number : ℕ) → (number ≡ 0 → ⊥) → power_of 2 (number - 1) ≡ place_of number
place_at number ne =
    let e : suc (number - 1) ≡ number = omega arith in
    sym (place-suc (number - 1)) ∙ ap place_of e

pub place_lt : (i : ℕ) → place_of i < 256
place_lt zero = rw place-zero (omega arith)
place_lt (suc i) = rw place-suc (power_lt 2 i)

pub places_apart : (i j : ℕ) → i < 256 → j < 256 → place_of i ≡ place_of j → i ≡ j
places_apart zero zero hi hj e = refl
places_apart zero (suc j) hi hj e =
    let pos = power_pos j in
    let none : power_of 2 j ≡ 0 = sym (place-suc j) ∙ sym e ∙ place-zero in
    absurd (omega arith)
places_apart (suc i) zero hi hj e =
    let pos = power_pos i in
    let none : power_of 2 i ≡ 0 = sym (place-suc i) ∙ e ∙ place-zero in
    absurd (omega arith)
places_apart (suc i) (suc j) hi hj e =
    ap suc (powers_apart i j (omega arith) (omega arith) (sym (place-suc i) ∙ e ∙ place-suc j))

-- ---- weights
pub inverse_zero : inverse_of 0 ≡ 0
unfolding inverse_of
inverse_zero = power-suc 0 253 ∙ mul_of-zero_left (power_of 0 253)

pub inverse_or : (o : Option ℕ) (d : ℕ) → (IsNone o ↔ (d ≡ 0)) → IfSome o (λ b. b ≡ inverse_of d) → unwrap_or o 0 ≡ inverse_of d
inverse_or None d none some = sym (ap inverse_of (none.0 refl) ∙ inverse_zero)
inverse_or (Some b) d none some = some

-- the first n factors of a distance
abbrev pub distance_below : ℕ → List ℕ → ℕ → ℕ → ℕ
distance_below n places j x = mul_below n (λ m. cond (m == j) 1 (bit_xor x (slice_index places m)))

pub distance_other : (n : ℕ) (places : List ℕ) (j x : ℕ) → (n ≡ j → ⊥)
    → mul_of (distance_below n places j x) (bit_xor x (slice_index places n)) ≡ distance_below (n + 1) places j x
distance_other n places j x ne =
    ap (λ b. mul_of (distance_below n places j x) (cond b 1 (bit_xor x (slice_index places n)))) (sym (ne_eqb n j ne))
    ∙ ap (λ (m : ℕ). distance_below m places j x) (sym (add-one n))

pub distance_same : (n : ℕ) (places : List ℕ) (j x : ℕ) → n ≡ j → distance_below n places j x ≡ distance_below (n + 1) places j x
distance_same n places j x e =
    sym (mul_of-one_right (distance_below n places j x) (mul_below_lt n (λ m. cond (m == j) 1 (bit_xor x (slice_index places m)))))
    ∙ ap (λ b. mul_of (distance_below n places j x) (cond b 1 (bit_xor x (slice_index places n)))) (sym (eq-eqb n j e))
    ∙ ap (λ (m : ℕ). distance_below m places j x) (sym (add-one n))

-- a distance from all of the places, and the inverse of that from one of them
pub distance_by_inverse : (places : List ℕ) (j x inverse : ℕ) → j < length places → mul_of (bit_xor x (slice_index places j)) inverse ≡ 1
    → mul_of (whole_distance_of places x) inverse ≡ distance_of places j x
unfolding distance_of
distance_by_inverse places j x inverse lt one =
    let others : ℕ = distance_below (length places) places j x in
    ap (λ (p : ℕ). mul_of p inverse) (mul_below_but (length places) (λ m. bit_xor x (slice_index places m)) j lt)
    ∙ mul_of-assoc others (bit_xor x (slice_index places j)) inverse
    ∙ ap (mul_of others) one
    ∙ mul_of-one_right others (mul_below_lt (length places) (λ m. cond (m == j) 1 (bit_xor x (slice_index places m))))
