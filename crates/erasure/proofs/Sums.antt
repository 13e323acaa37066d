-- Sums and products in the field, over the numbers below n.
use Rattle.std.proofs.Common.{◌≡◌, ◌≢◌, ℕ, zero, suc, ◌<◌, ◌≤◌, inl, inr, ◌==◌, cond, refl, sym, ap, ◌∙◌, arith}
use Rattle.std.specs.Int.Bits.{bit_xor, xor_self, xor_zero_r, xor_assoc}
use Rattle.std.proofs.lemmas.Nat.{xor_of_8}
use Rattle.std.proofs.lemmas.Bool.{cases_eq, eq-eqb, ne_eqb}
use Rattle.gf_field.specs.Field.{xor_below, mul_of}
use Rattle.gf_field.proofs.Bits.{xor_middle}
use Rattle.gf_field.proofs.Field.{mul_of-comm, mul_of-assoc, mul_of-one_right, mul_of-zero_left, mul_of-zero_right, mul_of-lt}
use Rattle.gf_field.proofs.Powers.{mul_of_cancels}
use Rattle.erasure.specs.Blocks.{mul_below}

-- ---- two elements
pub xor_cancel_left : (a b c : ℕ) → bit_xor (bit_xor a b) (bit_xor a c) ≡ bit_xor b c
xor_cancel_left a b c = xor_middle a b a c ∙ ap (λ (x : ℕ). bit_xor x (bit_xor b c)) (xor_self a)

pub xor_same : (a b : ℕ) → bit_xor a b ≡ 0 → a ≡ b
xor_same a b h =
    sym (xor_zero_r a) ∙ ap (bit_xor a) (sym (xor_self b)) ∙ sym (xor_assoc a b b) ∙ ap (λ (x : ℕ). bit_xor x b) h

pub xor_apart : (a b : ℕ) → a ≢ b → 0 < bit_xor a b
xor_apart a b ne = let apart : bit_xor a b ≢ 0 = λ h. ne (xor_same a b h) in omega arith

pub mul_of_left_comm : (a b c : ℕ) → mul_of a (mul_of b c) ≡ mul_of b (mul_of a c)
mul_of_left_comm a b c = sym (mul_of-assoc a b c) ∙ ap (λ (x : ℕ). mul_of x c) (mul_of-comm a b) ∙ mul_of-assoc b a c

-- a product is 0 where a factor is
pub no_zero_product : (a b : ℕ) → 0 < a → a < 256 → b < 256 → mul_of a b ≡ 0 → b ≡ 0
no_zero_product a b pos lt hb h = mul_of_cancels a b 0 pos lt hb (omega arith) (h ∙ sym (mul_of-zero_right a))

pub product_apart : (a b : ℕ) → 0 < a → a < 256 → 0 < b → b < 256 → 0 < mul_of a b
product_apart a b pa la pb lb =
    let apart : mul_of a b ≢ 0 = λ h. let no = no_zero_product a b pa la lb h in absurd (omega arith) in
    omega arith

-- ---- sums
pub xor_below_none : (n : ℕ) (f : ℕ → ℕ) → ((i : ℕ) → i < n → f i ≡ 0) → xor_below n f ≡ 0
xor_below_none zero f h = refl
xor_below_none (suc n) f h =
    ap (λ (x : ℕ). bit_xor x (f n)) (xor_below_none n f (λ i lt. h i (omega arith))) ∙ h n (omega arith)

-- a sum of which one term alone isn't 0
pub xor_below_single : (n : ℕ) (f : ℕ → ℕ) (i : ℕ) → i < n → ((j : ℕ) → j < n → j ≢ i → f j ≡ 0) → xor_below n f ≡ f i
xor_below_single zero f i lt h = absurd (omega arith)
xor_below_single (suc n) f i lt h = elim (cases_eq i n) [
  | inl here ↦
      ap (λ (x : ℕ). bit_xor x (f n)) (xor_below_none n f (λ j less. h j (omega arith) (omega arith)))
      ∙ ap f (sym here)
  | inr before ↦
      ap (bit_xor (xor_below n f)) (h n (omega arith) (λ e. before (sym e)))
      ∙ xor_zero_r (xor_below n f)
      ∙ xor_below_single n f i (omega arith) (λ j less ne. h j (omega arith) ne)
]

pub xor_below_lt : (n : ℕ) (f : ℕ → ℕ) → ((i : ℕ) → i < n → f i < 256) → xor_below n f < 256
xor_below_lt zero f h = omega arith
xor_below_lt (suc n) f h = xor_of_8 (xor_below n f) (f n) (xor_below_lt n f (λ i lt. h i (omega arith))) (h n (omega arith))

-- ---- products
pub mul_below_lt : (n : ℕ) (f : ℕ → ℕ) → mul_below n f < 256
mul_below_lt zero f = omega arith
mul_below_lt (suc n) f = mul_of-lt (mul_below n f) (f n)

pub mul_below-same : (n : ℕ) (f g : ℕ → ℕ) → ((i : ℕ) → i < n → f i ≡ g i) → mul_below n f ≡ mul_below n g
mul_below-same zero f g h = refl
mul_below-same (suc n) f g h =
    ap (λ (x : ℕ). mul_of x (f n)) (mul_below-same n f g (λ i lt. h i (omega arith)))
    ∙ ap (mul_of (mul_below n g)) (h n (omega arith))

pub mul_below_zero : (n : ℕ) (f : ℕ → ℕ) (i : ℕ) → i < n → f i ≡ 0 → mul_below n f ≡ 0
mul_below_zero zero f i lt h = absurd (omega arith)
mul_below_zero (suc n) f i lt h = elim (cases_eq i n) [
  | inl here ↦ ap (mul_of (mul_below n f)) (ap f (sym here) ∙ h) ∙ mul_of-zero_right (mul_below n f)
  | inr before ↦ ap (λ (x : ℕ). mul_of x (f n)) (mul_below_zero n f i (omega arith) h) ∙ mul_of-zero_left (f n)
]

pub mul_below_apart : (n : ℕ) (f : ℕ → ℕ) → ((i : ℕ) → i < n → (0 < f i) × (f i < 256)) → 0 < mul_below n f
mul_below_apart zero f h = omega arith
mul_below_apart (suc n) f h =
    let last = h n (omega arith) in
    product_apart (mul_below n f) (f n) (mul_below_apart n f (λ i lt. h i (omega arith))) (mul_below_lt n f) last.0 last.1

-- all of them but one, which is the same where it is not met, and this one
mul_below_but_past : (n : ℕ) (f : ℕ → ℕ) (j : ℕ) → n ≤ j → mul_below n f ≡ mul_below n (λ m. cond (m == j) 1 (f m))
mul_below_but_past n f j le =
    mul_below-same n f (λ m. cond (m == j) 1 (f m)) (λ i lt. sym (ap (λ b. cond b 1 (f i)) (ne_eqb i j (omega arith))))

pub mul_below_but : (n : ℕ) (f : ℕ → ℕ) (j : ℕ) → j < n → mul_below n f ≡ mul_of (mul_below n (λ m. cond (m == j) 1 (f m))) (f j)
mul_below_but zero f j lt = absurd (omega arith)
mul_below_but (suc n) f j lt =
    let others : ℕ = mul_below n (λ m. cond (m == j) 1 (f m)) in
    elim (cases_eq n j) [
      | inl here ↦
          ap (mul_of (mul_below n f)) (ap f here)
          ∙ ap (λ (x : ℕ). mul_of x (f j)) (
          mul_below_but_past n f j (omega arith)
          ∙ sym (mul_of-one_right others (mul_below_lt n (λ m. cond (m == j) 1 (f m))))
          ∙ ap (λ b. mul_of others (cond b 1 (f n))) (sym (eq-eqb n j here))
          )
      | inr before ↦
          ap (λ (x : ℕ). mul_of x (f n)) (mul_below_but n f j (omega arith))
          ∙ mul_of-assoc others (f j) (f n)
          ∙ ap (mul_of others) (mul_of-comm (f j) (f n))
          ∙ sym (mul_of-assoc others (f n) (f j))
          ∙ ap (λ b. mul_of (mul_of others (cond b 1 (f n))) (f j)) (sym (ne_eqb n j before))
    ]
