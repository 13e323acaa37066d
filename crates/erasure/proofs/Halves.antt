-- Products by the halves of bytes, and vectors of 32 bytes that are looked up by their halves.
use Rattle.std.proofs.Common.{◌≡◌, ℕ, ◌+◌, ◌-◌, ◌*◌, ◌/◌, ◌%◌, ◌^◌, ◌<◌, ◌≤◌, List, length, get_or, replicate, refl, sym, ap, subst, ◌∙◌, arith, w8, Fits, inl, inr, get_or-set_same, set}
use Rattle.std.proofs.Math.Nat.{one-mul}
use Rattle.std.specs.Int.Bits.{bit_and, bit_xor, xor_disjoint, and_shifted}
use Rattle.std.specs.Simd.Lanes.{zip2, Each1, chunk, put_chunk}
use Rattle.std.proofs.lemmas.Simd.{length-zip2, get_or-zip2, get_or-replicate, swz_l, SwzOk, SwzOk-from_below, length-swz_l, get_or-swz_l_below, Each1-from_get_or, Each1-get_or, length-chunk, get_or-chunk, get_or-put_chunk_at}
use Rattle.std.proofs.lemmas.Nat.{and_mask, xor_comm}
use Rattle.std.proofs.lemmas.Bool.{cases_lt}
use Rattle.gf_field.specs.Field.{mul_of}
use Rattle.erasure.specs.Tables.{AreProducts, AreTables, IsAdded}

-- multiplication distributes over sums
abbrev pub Distributes : Type 0
Distributes = (a b c : ℕ) → mul_of a (bit_xor b c) ≡ bit_xor (mul_of a b) (mul_of a c)

-- ---- one byte
halves_sum : (b : ℕ) → bit_xor (b % 16) (16 * (b / 16)) ≡ b
halves_sum b =
    let e : 16 * (b / 16) ≡ b / 16 * 2 ^ 4 = omega arith in
    let whole : 16 * (b / 16) + b % 16 ≡ b = omega arith in
    xor_comm (b % 16) (16 * (b / 16))
    ∙ xor_disjoint (16 * (b / 16)) (b % 16)
    (ap (λ (x : ℕ). bit_and x (b % 16)) e ∙ and_shifted (b / 16) 4 (b % 16) (omega arith))
    ∙ whole

pub halves_product : Distributes → (c b : ℕ) → bit_xor (mul_of c (1 * (b % 16))) (mul_of c (16 * (b / 16))) ≡ mul_of c b
halves_product law c b =
    ap (λ (x : ℕ). bit_xor (mul_of c x) (mul_of c (16 * (b / 16)))) (one-mul (b % 16))
    ∙ sym (law c (b % 16) (16 * (b / 16)))
    ∙ ap (mul_of c) (halves_sum b)

-- the product with a byte, from the tables
pub product_of_tables : Distributes → (c : ℕ) (low high : List ℕ) (b : ℕ) → AreTables c low high → b < 256
    → bit_xor (get_or low (b % 16) 0) (get_or high (b / 16) 0) ≡ mul_of c b
product_of_tables law c low high b t lt =
    let j : b % 16 % 16 ≡ b % 16 = omega arith in
    let l : b / 16 % 16 ≡ b / 16 = omega arith in
    ap (λ (x : ℕ). bit_xor x (get_or high (b / 16) 0)) (t.low_half (b % 16) (omega arith) ∙ ap (λ (x : ℕ). mul_of c (1 * x)) j)
    ∙ ap (bit_xor (mul_of c (1 * (b % 16)))) (t.high_half (b / 16) (omega arith) ∙ ap (λ (x : ℕ). mul_of c (16 * x)) l)
    ∙ halves_product law c b

-- ---- an operator on a vector and a splat
length-with_splat : (f : ℕ → ℕ → ℕ) (v : List ℕ) (x : ℕ) → length v ≡ 32 → length (zip2 f v (replicate 32 x)) ≡ 32
length-with_splat f v x long = length-zip2 f v (replicate 32 x) long ∙ long

with_splat_at : (f : ℕ → ℕ → ℕ) (v : List ℕ) (x k : ℕ) → length v ≡ 32 → k < 32 → get_or (zip2 f v (replicate 32 x)) k 0 ≡ f (get_or v k 0) x
with_splat_at f v x k long lt =
    get_or-zip2 f v (replicate 32 x) k 0 0 0 (omega arith) lt ∙ ap (f (get_or v k 0)) (get_or-replicate 32 k x 0 lt)

-- ---- the halves of the bytes of a vector
abbrev pub low_halves : List ℕ → List ℕ
low_halves v = zip2 bit_and v (replicate 32 15)

abbrev pub high_halves : List ℕ → List ℕ
high_halves v = zip2 (λ a b. a / 2 ^ b) v (replicate 32 4)

byte_at : (v : List ℕ) (k : ℕ) → length v ≡ 32 → Each1 (Fits w8) v → k < 32 → get_or v k 0 < 256
byte_at v k long fits lt = (Each1-get_or (Fits w8) v k 0 (omega arith) fits).fits

low_at : (v : List ℕ) (k : ℕ) → length v ≡ 32 → k < 32 → get_or (low_halves v) k 0 ≡ get_or v k 0 % 16
low_at v k long lt = with_splat_at bit_and v 15 k long lt ∙ and_mask (get_or v k 0) 4

high_at : (v : List ℕ) (k : ℕ) → length v ≡ 32 → k < 32 → get_or (high_halves v) k 0 ≡ get_or v k 0 / 16
high_at v k long lt = with_splat_at (λ a b. a / 2 ^ b) v 4 k long lt

positions_fit : (js : List ℕ) → length js ≡ 32 → ((k : ℕ) → k < 32 → get_or js k 0 < 16) → SwzOk w8 16 32 0 js
positions_fit js long small =
    SwzOk-from_below w8 16 2 32 0 js refl (omega arith) (Each1-from_get_or (λ j. j < 16) js 0 (λ k lt. small k (omega arith)))

pub low_halves_fit : (v : List ℕ) → length v ≡ 32 → SwzOk w8 16 32 0 (low_halves v)
low_halves_fit v long =
    positions_fit (low_halves v) (length-with_splat bit_and v 15 long) (λ k lt. omega (arith, low_at v k long lt))

pub high_halves_fit : (v : List ℕ) → length v ≡ 32 → Each1 (Fits w8) v → SwzOk w8 16 32 0 (high_halves v)
high_halves_fit v long fits =
    positions_fit (high_halves v) (length-with_splat (λ a b. a / 2 ^ b) v 4 long)
    (λ k lt. omega (arith, high_at v k long lt, byte_at v k long fits lt))

-- ---- the products with the bytes of a vector
-- a look-up in a table that stands in each block of 16 lanes
looked_up : (table js : List ℕ) (k j : ℕ) → length js ≡ 32 → k < 32 → get_or js k 0 ≡ j → j < 16
    → get_or (swz_l w8 16 table 0 js) k 0 ≡ get_or table (16 * (k / 16) + j) 0
looked_up table js k j long lt e small =
    get_or-swz_l_below w8 16 table 0 js k (omega arith) (omega arith) ∙ ap (λ (x : ℕ). get_or table x 0) (omega arith)

product_there : (c step : ℕ) (table : List ℕ) (k j : ℕ) → AreProducts c step table → k < 32 → j < 16
    → get_or table (16 * (k / 16) + j) 0 ≡ mul_of c (step * j)
product_there c step table k j h lt small =
    let e : (16 * (k / 16) + j) % 16 ≡ j = omega arith in
    h (16 * (k / 16) + j) (omega arith) ∙ ap (λ (x : ℕ). mul_of c (step * x)) e

abbrev pub products_with : List ℕ → List ℕ → List ℕ → List ℕ
products_with low high v = zip2 bit_xor (swz_l w8 16 low 0 (low_halves v)) (swz_l w8 16 high 0 (high_halves v))

module _ (low high v : List ℕ) (long : length v ≡ 32) where
  length-low : length (swz_l w8 16 low 0 (low_halves v)) ≡ 32
  length-low = length-swz_l w8 16 low 0 (low_halves v) ∙ length-with_splat bit_and v 15 long

  length-high : length (swz_l w8 16 high 0 (high_halves v)) ≡ 32
  length-high = length-swz_l w8 16 high 0 (high_halves v) ∙ length-with_splat (λ a b. a / 2 ^ b) v 4 long

  pub length-products_with : length (products_with low high v) ≡ 32
  length-products_with = length-zip2 bit_xor _ _ (length-low ∙ sym length-high) ∙ length-low

  pub products_with_at : Distributes → (c k : ℕ) → AreTables c low high → Each1 (Fits w8) v → k < 32
      → get_or (products_with low high v) k 0 ≡ mul_of c (get_or v k 0)
  products_with_at law c k t fits lt =
      let b : ℕ = get_or v k 0 in
      let small : b < 256 = byte_at v k long fits lt in
      get_or-zip2 bit_xor (swz_l w8 16 low 0 (low_halves v)) (swz_l w8 16 high 0 (high_halves v)) k 0 0 0
      (omega (arith, length-low)) (omega (arith, length-high))
      ∙ ap (λ (x : ℕ). bit_xor x (get_or (swz_l w8 16 high 0 (high_halves v)) k 0))
      (looked_up low (low_halves v) k (b % 16) (length-with_splat bit_and v 15 long) lt (low_at v k long lt) (omega arith)
      ∙ product_there c 1 low k (b % 16) t.low_half lt (omega arith))
      ∙ ap (bit_xor (mul_of c (1 * (b % 16))))
      (looked_up high (high_halves v) k (b / 16) (length-with_splat (λ a b. a / 2 ^ b) v 4 long) lt (high_at v k long lt) (omega arith)
      ∙ product_there c 16 high k (b / 16) t.high_half lt (omega arith))
      ∙ halves_product law c b

-- ---- sums over places
-- 32 bytes and their sums with products
pub put_added : (c at : ℕ) (source old products : List ℕ) → length products ≡ 32 → at + 32 ≤ length old
    → ((k : ℕ) → k < 32 → get_or products k 0 ≡ mul_of c (get_or source (at + k) 0))
    → IsAdded c source old (put_chunk at old (zip2 bit_xor (chunk at 32 old) products)) at (at + 32)
put_added c at source old products long within h i from to =
    let there : length (chunk at 32 old) ≡ 32 = length-chunk at 32 old within in
    let sums : List ℕ = zip2 bit_xor (chunk at 32 old) products in
    let both : length sums ≡ 32 = length-zip2 bit_xor (chunk at 32 old) products (there ∙ sym long) ∙ there in
    let k : ℕ = i - at in
    let lt : k < 32 = omega arith in
    let e : at + k ≡ i = omega arith in
    subst (λ (x : ℕ). get_or (put_chunk at old sums) x 0 ≡ bit_xor (get_or old x 0) (mul_of c (get_or source x 0))) e
    (get_or-put_chunk_at at old sums k 0 (omega arith) (omega arith)
    ∙ get_or-zip2 bit_xor (chunk at 32 old) products k 0 0 0 (omega arith) (omega arith)
    ∙ ap (λ (x : ℕ). bit_xor x (get_or products k 0)) (get_or-chunk at 32 old k 0 lt)
    ∙ ap (bit_xor (get_or old (at + k) 0)) (h k lt))

-- one byte
pub one_added : (c i now : ℕ) (source old : List ℕ) → i < length old → now ≡ bit_xor (get_or old i 0) (mul_of c (get_or source i 0))
    → IsAdded c source old (set old i now) i (i + 1)
one_added c i now source old within h j from to =
    let e : i ≡ j = omega arith in
    subst (λ (x : ℕ). get_or (set old i now) x 0 ≡ bit_xor (get_or old x 0) (mul_of c (get_or source x 0))) e
    (get_or-set_same old i now 0 within ∙ h)

-- one stretch after another
pub more_added : (c : ℕ) (source old middle new : List ℕ) (from at to : ℕ) → IsAdded c source old middle from at
    → ((i : ℕ) → at ≤ i → get_or middle i 0 ≡ get_or old i 0) → IsAdded c source middle new at to
    → ((i : ℕ) → i < at → get_or new i 0 ≡ get_or middle i 0) → IsAdded c source old new from to
more_added c source old middle new from at to first kept second stays i ge lt = elim (cases_lt i at) [
  | inl before ↦ stays i before ∙ first i ge before
  | inr after ↦ second i after lt ∙ ap (λ (x : ℕ). bit_xor x (mul_of c (get_or source i 0))) (kept i after)
]
