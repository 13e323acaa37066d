-- Bits that wait, put behind one another and taken from the front.
use Rattle.std.proofs.Common.{◌≡◌, ℕ, zero, suc, ◌+◌, ◌-◌, ◌*◌, ◌/◌, ◌%◌, ◌^◌, ◌<◌, ◌≤◌, ◌++◌, replicate, refl, ap, sym, ◌∙◌, subst, arith}
use Rattle.std.proofs.Math.Pow.{pow-add, shl_exact, shr_lt, split, pow_pos, pow_mono}
use Rattle.std.proofs.Math.Nat.{mod-lt, mod-eq_of_lt, mul-le-mul_right, zero-div}
use Rattle.base32_text.specs.Bits.{bits_of, number_of}
use Rattle.base32_text.proofs.BitLemmas.{bits_of-split, bits_of-low, bits_of-push, number_of-bits_of}

pub shifted : (count value width : ℕ) → count + width ≤ 16 → value < 2 ^ count → value * 2 ^ width % 4294967296 ≡ value * 2 ^ width
shifted count value width room small = shl_exact count width 32 small (omega arith)

below_product : (a b p n : ℕ) → a < b → n < p → a * p + n < b * p
below_product a b p n h k =
    let e : (a + 1) * p ≤ b * p = mul-le-mul_right p (let l : a + 1 ≤ b = omega arith in l) in omega arith

pub put_fits : (count value width number : ℕ) → count + width ≤ 16 → value < 2 ^ count → number < 2 ^ width
    → value * 2 ^ width % 4294967296 + number < 2 ^ (count + width)
put_fits count value width number room small fits =
    rw (shifted count value width room small, pow-add 2 count width) (below_product value (2 ^ count) (2 ^ width) number small fits)

pub put_bits : (count value width number : ℕ) → count + width ≤ 16 → value < 2 ^ count → number < 2 ^ width
    → bits_of (count + width) (value * 2 ^ width % 4294967296 + number) ≡ bits_of count value ++ bits_of width number
put_bits count value width number room small fits =
    rw (shifted count value width room small) (bits_of-push count width value number fits)

whole : (width count : ℕ) → width ≤ count → count ≡ width + (count - width)
whole width count h = omega arith

pub take_fits : (count value width : ℕ) → width ≤ count → value < 2 ^ count → value / 2 ^ (count - width) < 2 ^ width
take_fits count value width h small =
    shr_lt width (count - width) (subst (λ (n : ℕ). value < 2 ^ n) (whole width count h) small)

rest_is : (value q p r : ℕ) → q * p + r ≡ value → value - q * p ≡ r
rest_is value q p r e = omega arith

front_small : (value q p r w : ℕ) → q * p + r ≡ value → value < w → q * p < w
front_small value q p r w e h = omega arith

pub small_value : (count value : ℕ) → count ≤ 16 → value < 2 ^ count → value < 4294967296
small_value count value room small = let h : 2 ^ count ≤ 2 ^ 16 = pow_mono room in omega arith

-- what is left after the front was taken off
pub rest_value : (count value low : ℕ) → count ≤ 16 → value < 2 ^ count
    → value - value / 2 ^ low * 2 ^ low % 4294967296 ≡ value % 2 ^ low
rest_value count value low room small =
    let e : value / 2 ^ low * 2 ^ low + value % 2 ^ low ≡ value = split value low in
    let exact : value / 2 ^ low * 2 ^ low % 4294967296 ≡ value / 2 ^ low * 2 ^ low =
    mod-eq_of_lt (front_small value (value / 2 ^ low) (2 ^ low) (value % 2 ^ low) 4294967296 e (small_value count value room small)) in
    rw exact (rest_is value (value / 2 ^ low) (2 ^ low) (value % 2 ^ low) e)

pub rest_fits : (count value low : ℕ) → count ≤ 16 → value < 2 ^ count
    → value - value / 2 ^ low * 2 ^ low % 4294967296 < 2 ^ low
rest_fits count value low room small = rw (rest_value count value low room small) (mod-lt value (pow_pos low))

pub take_bits : (count value width : ℕ) → width ≤ count → count ≤ 16 → value < 2 ^ count
    → bits_of count value ≡ bits_of width (value / 2 ^ (count - width))
    ++ bits_of (count - width) (value - value / 2 ^ (count - width) * 2 ^ (count - width) % 4294967296)
take_bits count value width h room small =
    rw (rest_value count value (count - width) room small)
    (ap (λ n. bits_of n value) (whole width count h)
    ∙ bits_of-split width (count - width) value
    ∙ ap (λ bits. bits_of width (value / 2 ^ (count - width)) ++ bits)
    (ap (bits_of (count - width)) (sym (split value (count - width)))
    ∙ bits_of-low (count - width) (value / 2 ^ (count - width)) (value % 2 ^ (count - width))))

zero_div : (width : ℕ) → 0 / 2 ^ width % 2 ≡ 0
zero_div width = ap (λ x. x % 2) (zero-div (2 ^ width))

-- the bits of 0
pub bits_of-zero : (width : ℕ) → bits_of width 0 ≡ replicate width 0
unfolding bits_of
bits_of-zero zero = refl
bits_of-zero (suc width) = rw (zero_div width, bits_of-zero width) refl

-- bits are all zero just where their number is 0
pub zero_bits : (count value : ℕ) → value < 2 ^ count → bits_of count value ≡ replicate count 0 → value ≡ 0
zero_bits count value small e =
    sym (number_of-bits_of count value small)
    ∙ ap number_of (e ∙ sym (bits_of-zero count))
    ∙ number_of-bits_of count 0 (pow_pos count)
