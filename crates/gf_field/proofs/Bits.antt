-- Sums bit by bit, and functions that are additive for them.
use Rattle.std.proofs.Common.{◌≡◌, ℕ, zero, suc, ◌+◌, ◌*◌, ◌/◌, ◌%◌, ◌^◌, ◌<◌, ◌==◌, Bool, true, ◌&&◌, refl, sym, ap, subst, ◌∙◌, arith}
use Rattle.std.proofs.Math.Nat.{zero-mul, one-mul, div-add-mod'}
use Rattle.std.specs.Int.{bit_at}
use Rattle.std.specs.Int.Bits.{bit_xor, xor_self, xor_zero_r, xor_assoc}
use Rattle.std.proofs.lemmas.Nat.{xor_comm}
use Rattle.std.proofs.lemmas.Nat.Bits.{bit_at_xor, bit_at-lt, bit_at_cat_low}
use Rattle.std.proofs.lemmas.Bool.{and_parts, eqb-true, cases_eq}
use Rattle.std.proofs.Common.{inl, inr}
use Rattle.gf_field.specs.Field.{xor_below}

-- a test holds of each number below n
abbrev pub holds_below : (ℕ → Bool) → ℕ → Bool
holds_below test zero = true
holds_below test (suc n) = holds_below test n && test n

-- so it holds of each of them
pub holds_at : (test : ℕ → Bool) (n k : ℕ) → holds_below test n ≡ true → k < n → test k ≡ true
holds_at test zero k all less = absurd (omega arith)
holds_at test (suc n) k all less = elim (cases_eq k n) [
  | inl last ↦ subst (λ m. test m ≡ true) (sym last) (and_parts (holds_below test n) (test n) all).1
  | inr other ↦ holds_at test n k (and_parts (holds_below test n) (test n) all).0 (omega (arith, less, other))
]

-- the middle two of four change places
pub xor_middle : (a b c d : ℕ) → bit_xor (bit_xor a b) (bit_xor c d) ≡ bit_xor (bit_xor a c) (bit_xor b d)
xor_middle a b c d =
    xor_assoc a b (bit_xor c d)
    ∙ ap (bit_xor a) (sym (xor_assoc b c d) ∙ ap (λ (x : ℕ). bit_xor x d) (xor_comm b c) ∙ xor_assoc c b d)
    ∙ sym (xor_assoc a c (bit_xor b d))

-- a bit times a number, for the sum of two bits
pub bit_times : (u v m : ℕ) → u < 2 → v < 2 → (u + v) % 2 * m ≡ bit_xor (u * m) (v * m)
bit_times zero zero m hu hv = simp zero-mul
bit_times zero (suc zero) m hu hv = simp zero-mul
bit_times (suc zero) zero m hu hv = simp zero-mul (sym (xor_zero_r (1 * m)))
bit_times (suc zero) (suc zero) m hu hv = simp zero-mul (sym (xor_self (1 * m)))
bit_times (suc (suc u)) v m hu hv = absurd (omega arith)
bit_times zero (suc (suc v)) m hu hv = absurd (omega arith)
bit_times (suc zero) (suc (suc v)) m hu hv = absurd (omega arith)

pub bit_splits : (u x y : ℕ) → u < 2 → u * bit_xor x y ≡ bit_xor (u * x) (u * y)
bit_splits zero x y hu = simp zero-mul
bit_splits (suc zero) x y hu = simp one-mul
bit_splits (suc (suc u)) x y hu = absurd (omega arith)

pub bit_at_xor-times : (a b i m : ℕ) → bit_at (bit_xor a b) i * m ≡ bit_xor (bit_at a i * m) (bit_at b i * m)
bit_at_xor-times a b i m = ap (λ (x : ℕ). x * m) (bit_at_xor a b i) ∙ bit_times (bit_at a i) (bit_at b i) m (bit_at-lt a i) (bit_at-lt b i)

-- ---- sums
pub xor_below-same : (n : ℕ) (f g : ℕ → ℕ) → ((i : ℕ) → i < n → f i ≡ g i) → xor_below n f ≡ xor_below n g
xor_below-same zero f g h = refl
xor_below-same (suc n) f g h =
    ap (λ (x : ℕ). bit_xor x (f n)) (xor_below-same n f g (λ i lt. h i (omega arith)))
    ∙ ap (bit_xor (xor_below n g)) (h n (omega arith))

pub xor_below-xor : (n : ℕ) (f g : ℕ → ℕ) → xor_below n (λ i. bit_xor (f i) (g i)) ≡ bit_xor (xor_below n f) (xor_below n g)
xor_below-xor zero f g = refl
xor_below-xor (suc n) f g =
    ap (λ (x : ℕ). bit_xor x (bit_xor (f n) (g n))) (xor_below-xor n f g)
    ∙ xor_middle (xor_below n f) (xor_below n g) (f n) (g n)

-- ---- additive functions
pub record IsAdditive (f : ℕ → ℕ) : Type 0 where
  pub adds : (a b : ℕ) → f (bit_xor a b) ≡ bit_xor (f a) (f b)
  -- it looks at the lowest eight bits alone
  pub low : (a : ℕ) → f (a % 256) ≡ f a

pub additive_zero : (f : ℕ → ℕ) → IsAdditive f → f 0 ≡ 0
additive_zero f h =
    let e : f 0 ≡ bit_xor (f 0) (f 0) = h.adds 0 0 in
    e ∙ xor_self (f 0)

pub additive_sum : (f : ℕ → ℕ) → IsAdditive f → (n : ℕ) (g : ℕ → ℕ) → f (xor_below n g) ≡ xor_below n (λ i. f (g i))
additive_sum f h zero g = additive_zero f h
additive_sum f h (suc n) g = h.adds (xor_below n g) (g n) ∙ ap (λ (x : ℕ). bit_xor x (f (g n))) (additive_sum f h n g)

bit_scales : (f : ℕ → ℕ) → IsAdditive f → (u m : ℕ) → u < 2 → f (u * m) ≡ u * f m
bit_scales f h zero m hu = simp zero-mul (additive_zero f h)
bit_scales f h (suc zero) m hu = simp one-mul
bit_scales f h (suc (suc u)) m hu = absurd (omega arith)

-- ---- a byte is the sum of its bits
byte_sums : holds_below (λ a. xor_below 8 (λ i. bit_at a i * 2 ^ i) == a) 256 ≡ true
byte_sums = refl

byte_sum : (a : ℕ) → a < 256 → xor_below 8 (λ i. bit_at a i * 2 ^ i) ≡ a
byte_sum a lt = eqb-true (xor_below 8 (λ i. bit_at a i * 2 ^ i)) a (holds_at (λ a. xor_below 8 (λ i. bit_at a i * 2 ^ i) == a) 256 a byte_sums lt)

pub bit_at_low : (a i : ℕ) → i < 8 → bit_at (a % 256) i ≡ bit_at a i
bit_at_low a i lt = sym (ap (λ (x : ℕ). bit_at x i) (sym (div-add-mod' a 256)) ∙ bit_at_cat_low (a / 256) 8 (a % 256) i lt)

pub additive_spread : (f : ℕ → ℕ) → IsAdditive f → (a : ℕ) → f a ≡ xor_below 8 (λ i. bit_at (a % 256) i * f (2 ^ i))
additive_spread f h a =
    sym (h.low a)
    ∙ ap f (sym (byte_sum (a % 256) (omega arith)))
    ∙ additive_sum f h 8 (λ i. bit_at (a % 256) i * 2 ^ i)
    ∙ xor_below-same 8 (λ i. f (bit_at (a % 256) i * 2 ^ i)) (λ i. bit_at (a % 256) i * f (2 ^ i))
    (λ i lt. bit_scales f h (bit_at (a % 256) i) (2 ^ i) (bit_at-lt (a % 256) i))

-- two that agree at the powers of two agree everywhere
pub additive_same : (f g : ℕ → ℕ) → IsAdditive f → IsAdditive g → ((i : ℕ) → i < 8 → f (2 ^ i) ≡ g (2 ^ i)) → (a : ℕ) → f a ≡ g a
additive_same f g hf hg same a =
    additive_spread f hf a
    ∙ xor_below-same 8 (λ i. bit_at (a % 256) i * f (2 ^ i)) (λ i. bit_at (a % 256) i * g (2 ^ i)) (λ i lt. ap (λ (x : ℕ). bit_at (a % 256) i * x) (same i lt))
    ∙ sym (additive_spread g hg a)
