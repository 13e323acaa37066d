-- SubBytes on one byte (FIPS 197, section 5.1.1).
use Rattle.std.specs.Prelude.{ℕ, ◌+◌, ◌*◌, ◌%◌, ◌^◌, ◌==◌, find, sum_by, unwrap_or}
use Rattle.std.specs.List.{range_with_len}
use Rattle.std.specs.Int.{bit_at}
use Rattle.aes_ctr.specs.Field.{times}

-- the byte whose product with a is 1, and 0 where there is none
unfoldable pub inverse : ℕ → ℕ
inverse a = unwrap_or (find (λ b. times a b == 1) (range_with_len 0 256)) 0

-- bit i of the affine map: five bits of the byte and one of 0x63, added without carry
unfoldable pub affine_bit : ℕ → ℕ → ℕ
affine_bit a i =
    (bit_at a i + bit_at a ((i + 4) % 8) + bit_at a ((i + 5) % 8) + bit_at a ((i + 6) % 8)
    + bit_at a ((i + 7) % 8) + bit_at 0x63 i) % 2

-- the affine map over bits
unfoldable pub affine : ℕ → ℕ
affine a = sum_by (λ i. affine_bit a i * 2 ^ i) (range_with_len 0 8)

-- the inverse in the field, and then the affine map
unfoldable pub s_box : ℕ → ℕ
s_box a = affine (inverse a)
