-- A transposition of 8 by 8 bits by exchanges, in three rounds, at distances 1, 2 and 4. Of two rows that lie a distance
-- apart, the first gives the bits of its upper places, and takes those of the second's lower places for them.
-- For private clauses.
use Rattle.std.specs.Prelude.{ℕ, ◌≡◌, ◌+◌, ◌-◌, ◌/◌, ◌%◌, ◌⊎◌, Bool, List, cond, map, nat_eq}
use Rattle.std.specs.List.{range_with_len}
use Rattle.aes_ctr.specs.Planes.{byte_of, lanes}

-- eight vectors, with the bits m i r in lane i of vector r
abbrev pub rows : (ℕ → ℕ → ℕ → ℕ) → List (List ℕ)
rows m = map (λ r. lanes (λ i. byte_of (m i r))) (range_with_len 0 8)

-- the places whose number has n in it as a sum of 1, 2 and 4
abbrev pub is_upper : ℕ → ℕ → Bool
is_upper n k = nat_eq (k / n % 2) 1

-- a distance, and the byte that has the bits at lower places
abbrev pub HasMask : ℕ → ℕ → Type 0
HasMask n mask = (n ≡ 1 × mask ≡ 0x55) ⊎ ((n ≡ 2 × mask ≡ 0x33) ⊎ (n ≡ 4 × mask ≡ 0x0f))

-- the first of two rows after an exchange
abbrev pub first_after : ℕ → (ℕ → ℕ) → (ℕ → ℕ) → ℕ → ℕ
first_after n f g k = cond (is_upper n k) (g (k - n)) (f k)

-- the second
abbrev pub second_after : ℕ → (ℕ → ℕ) → (ℕ → ℕ) → ℕ → ℕ
second_after n f g k = cond (is_upper n k) (g k) (f (k + n))

-- all rows after the exchanges at a distance
abbrev pub rows_after : ℕ → (ℕ → ℕ → ℕ) → ℕ → ℕ → ℕ
rows_after n m r = cond (is_upper n r) (second_after n (m (r - n)) (m r)) (first_after n (m r) (m (r + n)))
