-- The field of the 256 bytes (FIPS 197, section 4). A byte stands for the polynomial whose
-- coefficients are its bits. The sum of two bytes is their exclusive or, and products are taken modulo
-- x^8 + x^4 + x^3 + x + 1, which is 0x11b.
use Rattle.std.specs.Prelude.{ℕ, zero, suc, ◌*◌, ◌/◌, ◌%◌, bit_xor, nat_lt, if◌then◌else◌}

-- a byte times x (section 4.2.1)
unfoldable pub times_x : ℕ → ℕ
times_x a = if nat_lt a 128 then 2 * a else bit_xor (2 * a) 0x11b

-- a byte times the polynomial of the lowest n bits of b: the sum of a times x^i over the bits i of b
unfoldable pub times_bits : ℕ → ℕ → ℕ → ℕ
times_bits zero a b = 0
times_bits (suc n) a b = bit_xor (b % 2 * a) (times_bits n (times_x a) (b / 2))

-- the product of two bytes (section 4.2)
unfoldable pub times : ℕ → ℕ → ℕ
times a b = times_bits 8 a b
