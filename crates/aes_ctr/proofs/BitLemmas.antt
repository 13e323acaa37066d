-- Bytes bit by bit.
use Rattle.std.proofs.Common.{◌≡◌, ℕ, zero, suc, ◌+◌, ◌%◌, ◌<◌, bit_xor, bit_and, min, refl, ap, sym, ◌∙◌, arith, List, map}
use Rattle.std.specs.Int.{bit_at}
use Rattle.std.specs.List.{range_with_len}
use Rattle.std.proofs.lemmas.Nat.{xor_lt}
use Rattle.std.proofs.lemmas.Nat.Bits.{bit_at_xor, bit_at_and, bit_at-lt, same_from_bits_below}
use Rattle.aes_ctr.specs.Planes.{byte_of, sliced}

-- a fact at each number below 8
pub below_8 : (P : ℕ → Type 0) → P 0 → P 1 → P 2 → P 3 → P 4 → P 5 → P 6 → P 7 → (i : ℕ) → i < 8 → P i
below_8 P a b c d e f g h zero lt = a
below_8 P a b c d e f g h (suc zero) lt = b
below_8 P a b c d e f g h (suc (suc zero)) lt = c
below_8 P a b c d e f g h (suc (suc (suc zero))) lt = d
below_8 P a b c d e f g h (suc (suc (suc (suc zero)))) lt = e
below_8 P a b c d e f g h (suc (suc (suc (suc (suc zero))))) lt = f
below_8 P a b c d e f g h (suc (suc (suc (suc (suc (suc zero)))))) lt = g
below_8 P a b c d e f g h (suc (suc (suc (suc (suc (suc (suc zero))))))) lt = h
below_8 P a b c d e f g h (suc (suc (suc (suc (suc (suc (suc (suc i)))))))) lt = absurd (omega arith)

-- sums and products of single bits
xor_of_bits : (x y : ℕ) → x < 2 → y < 2 → (x + y) % 2 ≡ bit_xor x y
xor_of_bits zero zero p q = refl
xor_of_bits zero (suc zero) p q = refl
xor_of_bits (suc zero) zero p q = refl
xor_of_bits (suc zero) (suc zero) p q = refl
xor_of_bits (suc (suc x)) y p q = absurd (omega arith)
xor_of_bits zero (suc (suc y)) p q = absurd (omega arith)
xor_of_bits (suc zero) (suc (suc y)) p q = absurd (omega arith)

and_of_bits : (x y : ℕ) → x < 2 → y < 2 → min x y ≡ bit_and x y
and_of_bits zero zero p q = refl
and_of_bits zero (suc zero) p q = refl
and_of_bits (suc zero) zero p q = refl
and_of_bits (suc zero) (suc zero) p q = refl
and_of_bits (suc (suc x)) y p q = absurd (omega arith)
and_of_bits zero (suc (suc y)) p q = absurd (omega arith)
and_of_bits (suc zero) (suc (suc y)) p q = absurd (omega arith)

pub bit_of_xor : (i a b : ℕ) → bit_at (bit_xor a b) i ≡ bit_xor (bit_at a i) (bit_at b i)
bit_of_xor i a b = bit_at_xor a b i ∙ xor_of_bits (bit_at a i) (bit_at b i) (bit_at-lt a i) (bit_at-lt b i)

pub bit_of_and : (i a b : ℕ) → bit_at (bit_and a b) i ≡ bit_and (bit_at a i) (bit_at b i)
bit_of_and i a b = bit_at_and a b i ∙ and_of_bits (bit_at a i) (bit_at b i) (bit_at-lt a i) (bit_at-lt b i)

-- the bits of a byte, the lowest first
unfoldable pub bits : ℕ → List ℕ
bits a = map (bit_at a) (range_with_len 0 8)

-- a byte that is made of bits
module _ (g : ℕ → ℕ) (low : (j : ℕ) → g j < 2) where
  pub byte_of_low : byte_of g < 256
  unfolding byte_of
  byte_of_low = omega (arith, low 0, low 1, low 2, low 3, low 4, low 5, low 6, low 7)

  pub bit_of_byte : (j : ℕ) → j < 8 → bit_at (byte_of g) j ≡ g j
  unfolding byte_of
  bit_of_byte =
      below_8 (λ j. bit_at (byte_of g) j ≡ g j)
      (omega (arith, low 0, low 1, low 2, low 3, low 4, low 5, low 6, low 7))
      (omega (arith, low 0, low 1, low 2, low 3, low 4, low 5, low 6, low 7))
      (omega (arith, low 0, low 1, low 2, low 3, low 4, low 5, low 6, low 7))
      (omega (arith, low 0, low 1, low 2, low 3, low 4, low 5, low 6, low 7))
      (omega (arith, low 0, low 1, low 2, low 3, low 4, low 5, low 6, low 7))
      (omega (arith, low 0, low 1, low 2, low 3, low 4, low 5, low 6, low 7))
      (omega (arith, low 0, low 1, low 2, low 3, low 4, low 5, low 6, low 7))
      (omega (arith, low 0, low 1, low 2, low 3, low 4, low 5, low 6, low 7))

-- bytes with the same bits
pub same_bytes : (x y : ℕ) → x < 256 → y < 256 → ((j : ℕ) → j < 8 → bit_at x j ≡ bit_at y j) → x ≡ y
same_bytes x y xt yt same = same_from_bits_below 8 x y xt yt same

-- a byte is made of its bits
pub byte_of_its_bits : (n : ℕ) → n < 256 → byte_of (bit_at n) ≡ n
byte_of_its_bits n lt =
    same_bytes (byte_of (bit_at n)) n (byte_of_low (bit_at n) (λ j. bit_at-lt n j)) lt (bit_of_byte (bit_at n) (λ j. bit_at-lt n j))

-- the bits of a slice
pub sliced_low : (a : ℕ → ℕ) (b : ℕ) → sliced a b < 256
unfolding sliced
sliced_low a b = byte_of_low (λ j. bit_at (a j) b) (λ j. bit_at-lt (a j) b)

pub bit_of_sliced : (a : ℕ → ℕ) (b j : ℕ) → j < 8 → bit_at (sliced a b) j ≡ bit_at (a j) b
unfolding sliced
bit_of_sliced a b j lt = bit_of_byte (λ j. bit_at (a j) b) (λ j. bit_at-lt (a j) b) j lt

-- bytes add up bit by bit
pub byte_of_xor : (g h : ℕ → ℕ) → ((j : ℕ) → g j < 2) → ((j : ℕ) → h j < 2)
    → bit_xor (byte_of g) (byte_of h) ≡ byte_of (λ j. bit_xor (g j) (h j))
byte_of_xor g h gl hl =
    let low : (j : ℕ) → bit_xor (g j) (h j) < 2 = λ j. xor_lt 1 (g j) (h j) (gl j) (hl j) in
    same_bytes _ _ (xor_lt 8 (byte_of g) (byte_of h) (byte_of_low g gl) (byte_of_low h hl)) (byte_of_low (λ j. bit_xor (g j) (h j)) low)
    (λ j lt. bit_of_xor j (byte_of g) (byte_of h)
    ∙ ap (λ (n : ℕ). bit_xor n (bit_at (byte_of h) j)) (bit_of_byte g gl j lt)
    ∙ ap (bit_xor (g j)) (bit_of_byte h hl j lt)
    ∙ sym (bit_of_byte (λ j. bit_xor (g j) (h j)) low j lt))

-- and so do slices
pub sliced_xor : (a c : ℕ → ℕ) (b : ℕ) → bit_xor (sliced a b) (sliced c b) ≡ sliced (λ j. bit_xor (a j) (c j)) b
unfolding sliced
sliced_xor a c b =
    byte_of_xor (λ j. bit_at (a j) b) (λ j. bit_at (c j) b) (λ j. bit_at-lt (a j) b) (λ j. bit_at-lt (c j) b)
    ∙ sym (λ i. byte_of (λ j. bit_of_xor b (a j) (c j) i))
