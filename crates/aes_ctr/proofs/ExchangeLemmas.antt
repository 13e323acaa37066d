-- Exchanges of bits between bytes, and a bit at all places of a byte.
use Rattle.std.proofs.Common.{◌≡◌, ℕ, zero, suc, Bool, true, false, ◌+◌, ◌-◌, ◌*◌, ◌/◌, ◌%◌, ◌^◌, ◌<◌, cond, nat_eq, nat_lt, bit_and, bit_or, min, max, refl, ap, sym, ◌∙◌, arith, inl, inr, lit<}
use Rattle.std.specs.Int.{bit_at}
use Rattle.std.specs.Int.Bits.{and_lt}
use Rattle.std.proofs.lemmas.Nat.{or_lt}
use Rattle.std.proofs.lemmas.Nat.Bits.{bit_at_and, bit_at_or, bit_at-lt, shr_and_one}
use Rattle.aes_ctr.specs.Planes.{byte_of, sliced}
use Rattle.aes_ctr.specs.Exchanges.{HasMask, first_after, second_after, is_upper, rows_after}
use Rattle.aes_ctr.proofs.BitLemmas.{bit_of_byte, byte_of_low, same_bytes}

-- one of two bits
pub one_of_bits : (b : Bool) (x y : ℕ) → x < 2 → y < 2 → cond b x y < 2
one_of_bits true x y p q = p
one_of_bits false x y p q = q

one_of_rows : (b : Bool) (f g : ℕ → ℕ) → ((k : ℕ) → f k < 2) → ((k : ℕ) → g k < 2) → (k : ℕ) → cond b f g k < 2
one_of_rows true f g p q = p
one_of_rows false f g p q = q

-- the bits of f where m has a 1, and those of g where it has a 0
abbrev selected : ℕ → (ℕ → ℕ) → (ℕ → ℕ) → ℕ → ℕ
selected m f g k = cond (nat_eq (bit_at m k) 1) (f k) (g k)

min_of_bits : (x y : ℕ) → x < 2 → y < 2 → min x y ≡ cond (nat_eq y 1) x 0
min_of_bits x zero p q = omega arith
min_of_bits x (suc zero) p q = omega arith
min_of_bits x (suc (suc y)) p q = absurd (omega arith)

max_of_bits : (x y z : ℕ) → z < 2 → max (cond (nat_eq z 1) x 0) (cond (nat_eq z 1) 0 y) ≡ cond (nat_eq z 1) x y
max_of_bits x y zero q = omega arith
max_of_bits x y (suc zero) q = omega arith
max_of_bits x y (suc (suc z)) q = absurd (omega arith)

module _ (m : ℕ) (lt : m < 256) where
  selected_low : (f g : ℕ → ℕ) → ((k : ℕ) → f k < 2) → ((k : ℕ) → g k < 2) → (k : ℕ) → selected m f g k < 2
  selected_low f g fb gb k = one_of_bits (nat_eq (bit_at m k) 1) (f k) (g k) (fb k) (gb k)

  -- a byte under a mask
  masked : (f : ℕ → ℕ) → ((k : ℕ) → f k < 2) → bit_and (byte_of f) m ≡ byte_of (selected m f (λ k. 0))
  masked f fb =
      let low = selected_low f (λ k. 0) fb (λ k. lit< tt) in
      same_bytes _ _ (and_lt 8 (byte_of f) m (byte_of_low f fb) lt) (byte_of_low (selected m f (λ k. 0)) low)
      (λ j jt. bit_at_and (byte_of f) m j
      ∙ ap (λ (b : ℕ). min b (bit_at m j)) (bit_of_byte f fb j jt)
      ∙ min_of_bits (f j) (bit_at m j) (fb j) (bit_at-lt m j)
      ∙ sym (bit_of_byte (selected m f (λ k. 0)) low j jt))

  -- two bytes, of which one has the bits under a mask, and the other those beside it
  joined : (f g : ℕ → ℕ) → ((k : ℕ) → f k < 2) → ((k : ℕ) → g k < 2)
      → bit_or (byte_of (selected m f (λ k. 0))) (byte_of (selected m (λ k. 0) g)) ≡ byte_of (selected m f g)
  joined f g fb gb =
      let fl = selected_low f (λ k. 0) fb (λ k. lit< tt) in
      let gl = selected_low (λ k. 0) g (λ k. lit< tt) gb in
      let low = selected_low f g fb gb in
      same_bytes _ _ (or_lt 8 _ _ (byte_of_low (selected m f (λ k. 0)) fl) (byte_of_low (selected m (λ k. 0) g) gl)) (byte_of_low (selected m f g) low)
      (λ j jt. bit_at_or (byte_of (selected m f (λ k. 0))) (byte_of (selected m (λ k. 0) g)) j
      ∙ ap (λ (b : ℕ). max b (bit_at (byte_of (selected m (λ k. 0) g)) j)) (bit_of_byte (selected m f (λ k. 0)) fl j jt)
      ∙ ap (max (selected m f (λ k. 0) j)) (bit_of_byte (selected m (λ k. 0) g) gl j jt)
      ∙ max_of_bits (f j) (g j) (bit_at m j) (bit_at-lt m j)
      ∙ sym (bit_of_byte (selected m f g) low j jt))

-- what an exchange at distance n makes of two bytes with the bits f and g
abbrev pub IsExchange : ℕ → ℕ → (ℕ → ℕ) → (ℕ → ℕ) → Type 0
IsExchange n m f g =
    (bit_or (bit_and (byte_of f) m) (bit_and (byte_of g) m * 2 ^ n % 256) ≡ byte_of (first_after n f g))
    × (bit_or (bit_and (byte_of f / 2 ^ n) m) (bit_and (byte_of g) (255 - m)) ≡ byte_of (second_after n f g))

-- the bits f moved down by n places
abbrev down : ℕ → (ℕ → ℕ) → ℕ → ℕ
down n f k = cond (nat_lt (k + n) 8) (f (k + n)) 0

module _ (f g : ℕ → ℕ) (fb : (k : ℕ) → f k < 2) (gb : (k : ℕ) → g k < 2) where
  -- from what shifts and the complement of the mask do
  made : (n m : ℕ) → m < 256
      → byte_of (selected m g (λ k. 0)) * 2 ^ n % 256 ≡ byte_of (selected m (λ k. 0) (λ k. g (k - n)))
      → byte_of f / 2 ^ n ≡ byte_of (down n f)
      → byte_of (selected (255 - m) g (λ k. 0)) ≡ byte_of (selected m (λ k. 0) g)
      → (bit_or (bit_and (byte_of f) m) (bit_and (byte_of g) m * 2 ^ n % 256) ≡ byte_of (selected m f (λ k. g (k - n))))
      × (bit_or (bit_and (byte_of f / 2 ^ n) m) (bit_and (byte_of g) (255 - m)) ≡ byte_of (selected m (down n f) g))
  made n m lt up moved beside =
      let low : (k : ℕ) → down n f k < 2 = λ k. one_of_bits (nat_lt (k + n) 8) (f (k + n)) 0 (fb (k + n)) (lit< tt) in (
        ap (λ (x : ℕ). bit_or x (bit_and (byte_of g) m * 2 ^ n % 256)) (masked m lt f fb)
            ∙ ap (λ (y : ℕ). bit_or (byte_of (selected m f (λ k. 0))) (y * 2 ^ n % 256)) (masked m lt g gb)
            ∙ ap (bit_or (byte_of (selected m f (λ k. 0)))) up
            ∙ joined m lt f (λ k. g (k - n)) fb (λ k. gb (k - n)),
        ap (λ (x : ℕ). bit_or (bit_and x m) (bit_and (byte_of g) (255 - m))) moved
            ∙ ap (λ (x : ℕ). bit_or x (bit_and (byte_of g) (255 - m))) (masked m lt (down n f) low)
            ∙ ap (bit_or (byte_of (selected m (down n f) (λ k. 0)))) (masked (255 - m) (omega arith) g gb ∙ beside)
            ∙ joined m lt (down n f) g low gb,
      )

  by_1 : IsExchange 1 0x55 f g
  unfolding byte_of
  by_1 =
      made 1 0x55 (lit< tt)
      (omega (arith, gb 0, gb 1, gb 2, gb 3, gb 4, gb 5, gb 6, gb 7))
      (omega (arith, fb 0, fb 1, fb 2, fb 3, fb 4, fb 5, fb 6, fb 7))
      refl

  by_2 : IsExchange 2 0x33 f g
  unfolding byte_of
  by_2 =
      made 2 0x33 (lit< tt)
      (omega (arith, gb 0, gb 1, gb 2, gb 3, gb 4, gb 5, gb 6, gb 7))
      (omega (arith, fb 0, fb 1, fb 2, fb 3, fb 4, fb 5, fb 6, fb 7))
      refl

  by_4 : IsExchange 4 0x0f f g
  unfolding byte_of
  by_4 =
      made 4 0x0f (lit< tt)
      (omega (arith, gb 0, gb 1, gb 2, gb 3, gb 4, gb 5, gb 6, gb 7))
      (omega (arith, fb 0, fb 1, fb 2, fb 3, fb 4, fb 5, fb 6, fb 7))
      refl

  pub is_exchange : (n m : ℕ) → HasMask n m → IsExchange n m f g
  is_exchange n m (inl h) = rw (h.0, h.1) by_1
  is_exchange n m (inr (inl h)) = rw (h.0, h.1) by_2
  is_exchange n m (inr (inr h)) = rw (h.0, h.1) by_4

-- the exchanges of all rows leave bits
pub rows_low : (n : ℕ) (m : ℕ → ℕ → ℕ) → ((r k : ℕ) → m r k < 2) → (r k : ℕ) → rows_after n m r k < 2
rows_low n m low r k =
    one_of_rows (is_upper n r) (second_after n (m (r - n)) (m r)) (first_after n (m r) (m (r + n)))
    (λ k. one_of_bits (is_upper n k) (m r k) (m (r - n) (k + n)) (low r k) (low (r - n) (k + n)))
    (λ k. one_of_bits (is_upper n k) (m (r + n) (k - n)) (m r k) (low (r + n) (k - n)) (low r k))
    k

-- a bit at all places
pub at_all_places : (x b : ℕ) → (0 + (256 - bit_and (x / 2 ^ b) 1)) % 256 ≡ sliced (λ j. x) b
unfolding sliced byte_of
at_all_places x b = ap (λ (y : ℕ). (0 + (256 - y)) % 256) (shr_and_one x b) ∙ omega (arith, bit_at-lt x b)
