-- The circuit for SubBytes: its gates work bit by bit, and on single bits it gives what the S-box gives.
use Rattle.std.proofs.Common.{◌≡◌, ℕ, ◌<◌, ◌≤◌, List, [], ◌∷◌, map, replicate, get_or, bit_xor, bit_and, refl, ap, sym, ◌∙◌, arith, zero-add, inl, inr}
use Rattle.std.proofs.Math.ListN.{get_or-map}
use Rattle.std.proofs.lemmas.Bool.{cases_lt}
use Rattle.std.proofs.lemmas.List.FromFn.{fill_by_all, get_or-map-range_with_len}
use Rattle.std.proofs.lemmas.Nat.Bits.{bit_at-zero, bit_at_above, bit_at_ones, bit_at_ones_above, same_from_bits}
use Rattle.std.proofs.lemmas.Simd.{get_or-replicate}
use Rattle.std.specs.Int.{bit_at}
use Rattle.std.specs.List.{range_with_len}
use Rattle.aes_ctr.specs.Circuit.{circuit, input_sums, inverse_of_norm, norm, output_sums, products}
use Rattle.aes_ctr.specs.Planes.{sliced, slices}
use Rattle.aes_ctr.specs.SBox.{s_box}
use Rattle.aes_ctr.proofs.BitLemmas.{bits, bit_of_and, bit_of_sliced, bit_of_xor, sliced_low}
use Rattle.aes_ctr.proofs.TableLemmas.{s_box_of, s_box_values, same_values}

-- what each gate commutes with, so does the circuit
module _ (h : ℕ → ℕ) (none : h 0 ≡ 0) (sum : (a b : ℕ) → h (bit_xor a b) ≡ bit_xor (h a) (h b))
    (product : (a b : ℕ) → h (bit_and a b) ≡ bit_and (h a) (h b)) where
  at : (xs : List ℕ) (k : ℕ) → get_or (map h xs) k 0 ≡ h (get_or xs k 0)
  at xs k = ap (λ (d : ℕ). get_or (map h xs) k d) (sym none) ∙ get_or-map h xs k 0

  on_input_sums : (x : List ℕ) → input_sums (map h x) ≡ map h (input_sums x)
  unfolding input_sums
  on_input_sums x = simp (at, sum)

  on_norm : (y : List ℕ) → norm (map h y) ≡ map h (norm y)
  unfolding norm
  on_norm y = simp (at, sum, product)

  on_inverse : (t : List ℕ) → inverse_of_norm (map h t) ≡ map h (inverse_of_norm t)
  unfolding inverse_of_norm
  on_inverse t = simp (at, sum, product)

  on_products : (y t : List ℕ) → products (map h y) (map h t) ≡ map h (products y t)
  unfolding products
  on_products y t = simp (at, product)

  on_output_sums : (ones : ℕ) (z : List ℕ) → output_sums (h ones) (map h z) ≡ map h (output_sums ones z)
  unfolding output_sums
  on_output_sums ones z = simp (at, sum)

  on_circuit : (ones : ℕ) (x : List ℕ) → circuit (h ones) (map h x) ≡ map h (circuit ones x)
  unfolding circuit
  on_circuit ones x = rw (on_input_sums, on_norm, on_inverse, on_products, on_output_sums) refl

tried : map (λ a. circuit 1 (bits a)) (range_with_len 0 256) ≡ map (λ a. bits (get_or s_box_values a 0)) (range_with_len 0 256)
unfolding s_box_values bits circuit input_sums norm inverse_of_norm products output_sums
tried = refl

-- the circuit on the bits of a byte
on_bits : (a : ℕ) → a < 256 → circuit 1 (bits a) ≡ bits (s_box a)
on_bits a lt =
    same_values (λ b. circuit 1 (bits b)) (λ b. bits (get_or s_box_values b 0)) 0 256 tried a (omega arith) lt
    ∙ ap bits (s_box_of a lt)

-- bit j of each slice of eight bytes: the bits of byte j
bits_of_slices : (a : ℕ → ℕ) (j : ℕ) → j < 8 → map (λ n. bit_at n j) (slices a) ≡ bits (a j)
unfolding bits
bits_of_slices a j lt =
    let at : (b : ℕ) → bit_at (sliced a b) j ≡ bit_at (a j) b = λ b. bit_of_sliced a b j lt in
    λ i. at 0 i ∷ at 1 i ∷ at 2 i ∷ at 3 i ∷ at 4 i ∷ at 5 i ∷ at 6 i ∷ at 7 i ∷ []

-- slices have no further bits
no_bits : (a : ℕ → ℕ) (j : ℕ) → 8 ≤ j → map (λ n. bit_at n j) (slices a) ≡ replicate 8 0
no_bits a j le =
    let at : (b : ℕ) → bit_at (sliced a b) j ≡ 0 = λ b. bit_at_above (sliced a b) 8 j (sliced_low a b) le in
    λ i. at 0 i ∷ at 1 i ∷ at 2 i ∷ at 3 i ∷ at 4 i ∷ at 5 i ∷ at 6 i ∷ at 7 i ∷ []

-- eight bytes bit by bit, through the circuit
module _ (a : ℕ → ℕ) (low : (j : ℕ) → a j < 256) where
  outcome : List ℕ
  outcome = circuit 255 (slices a)

  -- one bit of the circuit's numbers
  outcome_bit : (k j : ℕ)
      → bit_at (get_or outcome k 0) j ≡ get_or (circuit (bit_at 255 j) (map (λ n. bit_at n j) (slices a))) k 0
  unfolding outcome
  outcome_bit k j =
      let h : ℕ → ℕ = λ n. bit_at n j in
      sym (at h (bit_at-zero j) (bit_of_xor j) (bit_of_and j) outcome k)
      ∙ ap (λ (l : List ℕ). get_or l k 0) (sym (on_circuit h (bit_at-zero j) (bit_of_xor j) (bit_of_and j) 255 (slices a)))

  -- it is that of the S-box's slices
  same_low : (k j : ℕ) → k < 8 → j < 8 → bit_at (get_or outcome k 0) j ≡ bit_at (sliced (λ i. s_box (a i)) k) j
  unfolding bits
  same_low k j kt jt =
      outcome_bit k j
      ∙ ap (λ (ones : ℕ). get_or (circuit ones (map (λ n. bit_at n j) (slices a))) k 0) (bit_at_ones 8 j jt)
      ∙ ap (λ (x : List ℕ). get_or (circuit 1 x) k 0) (bits_of_slices a j jt)
      ∙ ap (λ (l : List ℕ). get_or l k 0) (on_bits (a j) (low j))
      ∙ get_or-map-range_with_len (bit_at (s_box (a j))) 0 8 k k 0 kt (zero-add k)
      ∙ sym (bit_of_sliced (λ i. s_box (a i)) k j jt)

  same_high : (k j : ℕ) → k < 8 → 8 ≤ j → bit_at (get_or outcome k 0) j ≡ bit_at (sliced (λ i. s_box (a i)) k) j
  unfolding circuit input_sums norm inverse_of_norm products output_sums
  same_high k j kt le =
      outcome_bit k j
      ∙ ap (λ (ones : ℕ). get_or (circuit ones (map (λ n. bit_at n j) (slices a))) k 0) (bit_at_ones_above 8 j le)
      ∙ ap (λ (x : List ℕ). get_or (circuit 0 x) k 0) (no_bits a j le)
      ∙ get_or-replicate 8 k 0 0 kt
      ∙ sym (bit_at_above (sliced (λ i. s_box (a i)) k) 8 j (sliced_low (λ i. s_box (a i)) k) le)

  pub circuit_of_slices : circuit 255 (slices a) ≡ slices (λ j. s_box (a j))
  unfolding outcome circuit output_sums
  circuit_of_slices =
      fill_by_all (sliced (λ j. s_box (a j))) outcome 8 0 refl
      (λ k kt. same_from_bits (get_or outcome k 0) (sliced (λ j. s_box (a j)) k)
      (λ j. elim (cases_lt j 8) [ inl lt ↦ same_low k j kt lt | inr le ↦ same_high k j kt le ]))
