-- The laws of the field. Products are bit by bit additive on either side, so two such functions that agree at the
-- eight powers of two agree everywhere, and a law in three variables is a test of 512 cases.
use Rattle.std.proofs.Common.{◌≡◌, ℕ, zero, suc, ◌+◌, ◌*◌, ◌%◌, ◌^◌, ◌<◌, ◌==◌, Bool, true, refl, sym, ap, ◌∙◌, arith}
use Rattle.std.specs.Int.{bit_at}
use Rattle.std.specs.Int.Bits.{bit_xor}
use Rattle.std.proofs.lemmas.Nat.Bits.{bit_at-lt}
use Rattle.std.proofs.lemmas.Bool.{eqb-true}
use Rattle.gf_field.specs.Field.{xor_below, product_of, modulus, remainder_of, mul_of}
use Rattle.gf_field.proofs.Bits.{holds_below, holds_at, xor_middle, bit_at_xor-times, xor_below-same, xor_below-xor, bit_splits, bit_at_low, IsAdditive, additive_same, additive_zero}

-- ---- products are additive
product-xor_left : (a c b : ℕ) → product_of (bit_xor a c) b ≡ bit_xor (product_of a b) (product_of c b)
product-xor_left a c b =
    xor_below-same 8 _ (λ i. bit_xor (xor_below 8 (λ j. bit_at a i * (bit_at b j * 2 ^ (i + j)))) (xor_below 8 (λ j. bit_at c i * (bit_at b j * 2 ^ (i + j)))))
    (λ i lt.
    xor_below-same 8 _ (λ j. bit_xor (bit_at a i * (bit_at b j * 2 ^ (i + j))) (bit_at c i * (bit_at b j * 2 ^ (i + j))))
    (λ j less. bit_at_xor-times a c i (bit_at b j * 2 ^ (i + j)))
    ∙ xor_below-xor 8 (λ j. bit_at a i * (bit_at b j * 2 ^ (i + j))) (λ j. bit_at c i * (bit_at b j * 2 ^ (i + j))))
    ∙ xor_below-xor 8 (λ i. xor_below 8 (λ j. bit_at a i * (bit_at b j * 2 ^ (i + j)))) (λ i. xor_below 8 (λ j. bit_at c i * (bit_at b j * 2 ^ (i + j))))

product-xor_right : (a b d : ℕ) → product_of a (bit_xor b d) ≡ bit_xor (product_of a b) (product_of a d)
product-xor_right a b d =
    xor_below-same 8 _ (λ i. bit_xor (xor_below 8 (λ j. bit_at a i * (bit_at b j * 2 ^ (i + j)))) (xor_below 8 (λ j. bit_at a i * (bit_at d j * 2 ^ (i + j)))))
    (λ i lt.
    xor_below-same 8 _ (λ j. bit_xor (bit_at a i * (bit_at b j * 2 ^ (i + j))) (bit_at a i * (bit_at d j * 2 ^ (i + j))))
    (λ j less.
    ap (λ (x : ℕ). bit_at a i * x) (bit_at_xor-times b d j (2 ^ (i + j)))
    ∙ bit_splits (bit_at a i) (bit_at b j * 2 ^ (i + j)) (bit_at d j * 2 ^ (i + j)) (bit_at-lt a i))
    ∙ xor_below-xor 8 (λ j. bit_at a i * (bit_at b j * 2 ^ (i + j))) (λ j. bit_at a i * (bit_at d j * 2 ^ (i + j))))
    ∙ xor_below-xor 8 (λ i. xor_below 8 (λ j. bit_at a i * (bit_at b j * 2 ^ (i + j)))) (λ i. xor_below 8 (λ j. bit_at a i * (bit_at d j * 2 ^ (i + j))))

product_low_left : (a b : ℕ) → product_of (a % 256) b ≡ product_of a b
product_low_left a b =
    xor_below-same 8 (λ i. xor_below 8 (λ j. bit_at (a % 256) i * (bit_at b j * 2 ^ (i + j)))) (λ i. xor_below 8 (λ j. bit_at a i * (bit_at b j * 2 ^ (i + j))))
    (λ i lt. xor_below-same 8 (λ j. bit_at (a % 256) i * (bit_at b j * 2 ^ (i + j))) (λ j. bit_at a i * (bit_at b j * 2 ^ (i + j)))
    (λ j less. ap (λ (x : ℕ). x * (bit_at b j * 2 ^ (i + j))) (bit_at_low a i lt)))

product_low_right : (a b : ℕ) → product_of a (b % 256) ≡ product_of a b
product_low_right a b =
    xor_below-same 8 (λ i. xor_below 8 (λ j. bit_at a i * (bit_at (b % 256) j * 2 ^ (i + j)))) (λ i. xor_below 8 (λ j. bit_at a i * (bit_at b j * 2 ^ (i + j))))
    (λ i lt. xor_below-same 8 (λ j. bit_at a i * (bit_at (b % 256) j * 2 ^ (i + j))) (λ j. bit_at a i * (bit_at b j * 2 ^ (i + j)))
    (λ j less. ap (λ (x : ℕ). bit_at a i * (x * 2 ^ (i + j))) (bit_at_low b j less)))

remainder-xor : (n p q : ℕ) → remainder_of n (bit_xor p q) ≡ bit_xor (remainder_of n p) (remainder_of n q)
remainder-xor zero p q = refl
remainder-xor (suc n) p q =
    ap (λ (x : ℕ). remainder_of n (bit_xor (bit_xor p q) x)) (bit_at_xor-times p q (8 + n) (modulus * 2 ^ n))
    ∙ ap (remainder_of n) (xor_middle p q (bit_at p (8 + n) * (modulus * 2 ^ n)) (bit_at q (8 + n) * (modulus * 2 ^ n)))
    ∙ remainder-xor n (bit_xor p (bit_at p (8 + n) * (modulus * 2 ^ n))) (bit_xor q (bit_at q (8 + n) * (modulus * 2 ^ n)))

pub mul_of-xor_left : (a c b : ℕ) → mul_of (bit_xor a c) b ≡ bit_xor (mul_of a b) (mul_of c b)
unfolding mul_of
mul_of-xor_left a c b = ap (remainder_of 7) (product-xor_left a c b) ∙ remainder-xor 7 (product_of a b) (product_of c b)

pub mul_of-xor_right : (a b d : ℕ) → mul_of a (bit_xor b d) ≡ bit_xor (mul_of a b) (mul_of a d)
unfolding mul_of
mul_of-xor_right a b d = ap (remainder_of 7) (product-xor_right a b d) ∙ remainder-xor 7 (product_of a b) (product_of a d)

pub mul_of_low_left : (a b : ℕ) → mul_of (a % 256) b ≡ mul_of a b
unfolding mul_of
mul_of_low_left a b = ap (remainder_of 7) (product_low_left a b)

pub mul_of_low_right : (a b : ℕ) → mul_of a (b % 256) ≡ mul_of a b
unfolding mul_of
mul_of_low_right a b = ap (remainder_of 7) (product_low_right a b)

-- ---- additive functions made of products
pub left_factor : (b : ℕ) → IsAdditive (λ a. mul_of a b)
left_factor b = record { adds = λ a c. mul_of-xor_left a c b; low = λ a. mul_of_low_left a b }

right_factor : (a : ℕ) → IsAdditive (λ b. mul_of a b)
right_factor a = record { adds = λ b d. mul_of-xor_right a b d; low = λ b. mul_of_low_right a b }

-- an additive function, and then a product
then_left : (f : ℕ → ℕ) → IsAdditive f → (c : ℕ) → IsAdditive (λ a. mul_of (f a) c)
then_left f h c = record {
  adds = λ a b. ap (λ (x : ℕ). mul_of x c) (h.adds a b) ∙ mul_of-xor_left (f a) (f b) c;
  low = λ a. ap (λ (x : ℕ). mul_of x c) (h.low a);
}

then_right : (f : ℕ → ℕ) → IsAdditive f → (c : ℕ) → IsAdditive (λ a. mul_of c (f a))
then_right f h c = record {
  adds = λ a b. ap (mul_of c) (h.adds a b) ∙ mul_of-xor_right c (f a) (f b);
  low = λ a. ap (mul_of c) (h.low a);
}

-- ---- the product is commutative and associative
abbrev commutes_at : ℕ → ℕ → Bool
commutes_at i j = mul_of (2 ^ i) (2 ^ j) == mul_of (2 ^ j) (2 ^ i)

commutes : holds_below (λ i. holds_below (λ j. commutes_at i j) 8) 8 ≡ true
unfolding mul_of
commutes = refl

pub mul_of-comm : (a b : ℕ) → mul_of a b ≡ mul_of b a
mul_of-comm a b =
    additive_same (λ a. mul_of a b) (λ a. mul_of b a) (left_factor b) (right_factor b)
    (λ i lt. additive_same (λ b. mul_of (2 ^ i) b) (λ b. mul_of b (2 ^ i)) (right_factor (2 ^ i)) (left_factor (2 ^ i))
    (λ j less. eqb-true (mul_of (2 ^ i) (2 ^ j)) (mul_of (2 ^ j) (2 ^ i))
    (holds_at (λ j. commutes_at i j) 8 j (holds_at (λ i. holds_below (λ j. commutes_at i j) 8) 8 i commutes lt) less)) b) a

abbrev associates_at : ℕ → ℕ → ℕ → Bool
associates_at i j l = mul_of (mul_of (2 ^ i) (2 ^ j)) (2 ^ l) == mul_of (2 ^ i) (mul_of (2 ^ j) (2 ^ l))

associates : holds_below (λ i. holds_below (λ j. holds_below (λ l. associates_at i j l) 8) 8) 8 ≡ true
unfolding mul_of
associates = refl

associates_each : (i j l : ℕ) → i < 8 → j < 8 → l < 8 → mul_of (mul_of (2 ^ i) (2 ^ j)) (2 ^ l) ≡ mul_of (2 ^ i) (mul_of (2 ^ j) (2 ^ l))
associates_each i j l hi hj hl =
    eqb-true (mul_of (mul_of (2 ^ i) (2 ^ j)) (2 ^ l)) (mul_of (2 ^ i) (mul_of (2 ^ j) (2 ^ l)))
    (holds_at (λ l. associates_at i j l) 8 l
    (holds_at (λ j. holds_below (λ l. associates_at i j l) 8) 8 j
    (holds_at (λ i. holds_below (λ j. holds_below (λ l. associates_at i j l) 8) 8) 8 i associates hi) hj) hl)

pub mul_of-assoc : (a b c : ℕ) → mul_of (mul_of a b) c ≡ mul_of a (mul_of b c)
mul_of-assoc a b c =
    additive_same (λ a. mul_of (mul_of a b) c) (λ a. mul_of a (mul_of b c)) (then_left (λ a. mul_of a b) (left_factor b) c) (left_factor (mul_of b c))
    (λ i hi. additive_same (λ b. mul_of (mul_of (2 ^ i) b) c) (λ b. mul_of (2 ^ i) (mul_of b c))
    (then_left (λ b. mul_of (2 ^ i) b) (right_factor (2 ^ i)) c) (then_right (λ b. mul_of b c) (left_factor c) (2 ^ i))
    (λ j hj. additive_same (λ c. mul_of (mul_of (2 ^ i) (2 ^ j)) c) (λ c. mul_of (2 ^ i) (mul_of (2 ^ j) c))
    (right_factor (mul_of (2 ^ i) (2 ^ j))) (then_right (λ c. mul_of (2 ^ j) c) (right_factor (2 ^ j)) (2 ^ i))
    (λ l hl. associates_each i j l hi hj hl) c) b) a

-- ---- zero, one, and the range
pub mul_of-zero_left : (b : ℕ) → mul_of 0 b ≡ 0
mul_of-zero_left b = additive_zero (λ a. mul_of a b) (left_factor b)

pub mul_of-zero_right : (a : ℕ) → mul_of a 0 ≡ 0
mul_of-zero_right a = additive_zero (λ b. mul_of a b) (right_factor a)

ones : holds_below (λ a. mul_of 1 a == a) 256 ≡ true
unfolding mul_of
ones = refl

pub mul_of-one_left : (a : ℕ) → a < 256 → mul_of 1 a ≡ a
mul_of-one_left a lt = eqb-true (mul_of 1 a) a (holds_at (λ a. mul_of 1 a == a) 256 a ones lt)

pub mul_of-one_right : (a : ℕ) → a < 256 → mul_of a 1 ≡ a
mul_of-one_right a lt = mul_of-comm a 1 ∙ mul_of-one_left a lt

one_low : (a : ℕ) → mul_of 1 a ≡ a % 256
one_low a = sym (mul_of_low_right 1 a) ∙ mul_of-one_left (a % 256) (omega arith)

-- a product is a byte: it is 1 times itself
pub mul_of-lt : (a b : ℕ) → mul_of a b < 256
mul_of-lt a b =
    let e : mul_of a b ≡ mul_of 1 (mul_of a b) =
    sym (mul_of_low_left a b) ∙ ap (λ (x : ℕ). mul_of x b) (sym (one_low a)) ∙ mul_of-assoc 1 a b in
    let low = one_low (mul_of a b) in
    omega (arith, e, low)
