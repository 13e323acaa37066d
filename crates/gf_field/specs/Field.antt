-- The field GF(256). A byte stands for a polynomial over bits of degree below 8: its bit i is the coefficient of x^i.
-- Two are added bit by bit, and multiplied modulo x^8 + x^4 + x^3 + x^2 + 1.
use Rattle.std.specs.Prelude.{ℕ, zero, suc, ◌+◌, ◌*◌, ◌^◌, bit_xor}
use Rattle.std.specs.Int.{bit_at}

-- f 0, f 1 and so on to f (n - 1), added bit by bit
abbrev pub xor_below : ℕ → (ℕ → ℕ) → ℕ
xor_below zero f = 0
xor_below (suc n) f = bit_xor (xor_below n f) (f n)

-- the product of two polynomials of degree below 8, without carries: each x^i of one by each x^j of the other
abbrev pub product_of : ℕ → ℕ → ℕ
product_of a b = xor_below 8 (λ i. xor_below 8 (λ j. bit_at a i * (bit_at b j * 2 ^ (i + j))))

-- x^8 + x^4 + x^3 + x^2 + 1
abbrev pub modulus : ℕ
modulus = 0b1_0001_1101

-- the remainder by the modulus, by long division: of a polynomial of degree below 8 + n, whose highest term is taken
-- away, where it is there, by adding x^(n - 1) times the modulus
abbrev pub remainder_of : ℕ → ℕ → ℕ
remainder_of zero p = p
remainder_of (suc n) p = remainder_of n (bit_xor p (bit_at p (8 + n) * (modulus * 2 ^ n)))

-- the product in the field
unfoldable pub mul_of : ℕ → ℕ → ℕ
mul_of a b = remainder_of 7 (product_of a b)

-- a to the n
unfoldable pub power_of : ℕ → ℕ → ℕ
power_of a zero = 1
power_of a (suc n) = mul_of a (power_of a n)

-- the inverse of a byte that isn't 0: a to the 254, since a to the 255 is 1
unfoldable pub inverse_of : ℕ → ℕ
inverse_of a = power_of a 254
