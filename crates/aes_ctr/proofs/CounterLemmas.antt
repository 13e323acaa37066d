-- Counter blocks in a row, bit by bit.
use Rattle.std.proofs.Common.{◌≡◌, ℕ, ◌+◌, ◌*◌, ◌/◌, ◌%◌, ◌^◌, ◌<◌, List, [], ◌∷◌, map, get_or, bit_xor, refl, ap, sym, ◌∙◌, arith}
use Rattle.std.specs.List.{range_with_len}
use Rattle.std.specs.Int.{to_be_bytes, w128}
use Rattle.std.specs.Int.Bits.{xor_zero_r}
use Rattle.std.proofs.lemmas.Nat.{shr-shr}
use Rattle.aes_ctr.specs.Rounds.{add_round_key}
use Rattle.aes_ctr.specs.Keystream.{counter_block}
use Rattle.aes_ctr.specs.Planes.{byte_of, sliced, planes, place}
use Rattle.aes_ctr.proofs.StateLemmas.{same_16}
use Rattle.aes_ctr.proofs.TableLemmas.{same_values}

-- planes see the first sixteen states alone
pub planes_same : (s t : ℕ → List ℕ) → ((j : ℕ) → j < 16 → s j ≡ t j) → planes s ≡ planes t
unfolding byte_of sliced
planes_same s t same =
    let e0 : s 0 ≡ t 0 = same 0 (omega arith) in
    let e1 : s 1 ≡ t 1 = same 1 (omega arith) in
    let e2 : s 2 ≡ t 2 = same 2 (omega arith) in
    let e3 : s 3 ≡ t 3 = same 3 (omega arith) in
    let e4 : s 4 ≡ t 4 = same 4 (omega arith) in
    let e5 : s 5 ≡ t 5 = same 5 (omega arith) in
    let e6 : s 6 ≡ t 6 = same 6 (omega arith) in
    let e7 : s 7 ≡ t 7 = same 7 (omega arith) in
    let e8 : s 8 ≡ t 8 = same 8 (omega arith) in
    let e9 : s 9 ≡ t 9 = same 9 (omega arith) in
    let e10 : s 10 ≡ t 10 = same 10 (omega arith) in
    let e11 : s 11 ≡ t 11 = same 11 (omega arith) in
    let e12 : s 12 ≡ t 12 = same 12 (omega arith) in
    let e13 : s 13 ≡ t 13 = same 13 (omega arith) in
    let e14 : s 14 ≡ t 14 = same 14 (omega arith) in
    let e15 : s 15 ≡ t 15 = same 15 (omega arith) in
    (λ i. planes (λ j. get_or (e0 i ∷ e1 i ∷ e2 i ∷ e3 i ∷ e4 i ∷ e5 i ∷ e6 i ∷ e7 i ∷ e8 i ∷ e9 i ∷ e10 i ∷ e11 i
    ∷ e12 i ∷ e13 i ∷ e14 i ∷ e15 i ∷ []) j []))

-- a counter block's bytes
pub counter_bytes : (n : ℕ) → to_be_bytes w128 n ≡ counter_block n
unfolding counter_block
counter_bytes n = refl

low_bits_added : map (λ v. bit_xor (v / 8 * 8) (v % 8)) (range_with_len 0 256) ≡ map (λ v. v) (range_with_len 0 256)
low_bits_added = refl

-- the block j places after one whose number is a multiple of eight
module _ (n j : ℕ) (first : n % 8 ≡ 0) (within : j < 8) where
  last : bit_xor (n % 2 ^ 8) j ≡ (n + j) % 2 ^ 8
  last =
      let v : ℕ = (n + j) % 2 ^ 8 in
      let high : n % 2 ^ 8 ≡ v / 8 * 8 = omega arith in
      let low : j ≡ v % 8 = omega arith in
      let small : v < 256 = omega arith in
      ap (λ (x : ℕ). bit_xor x j) high ∙ ap (bit_xor (v / 8 * 8)) low
      ∙ same_values (λ v. bit_xor (v / 8 * 8) (v % 8)) (λ v. v) 0 256 low_bits_added v (omega arith) small

  other : (k : ℕ) → bit_xor (n / 2 ^ (3 + k) % 2 ^ 8) 0 ≡ (n + j) / 2 ^ (3 + k) % 2 ^ 8
  other k =
      let same : n / 2 ^ 3 ≡ (n + j) / 2 ^ 3 = omega arith in
      xor_zero_r (n / 2 ^ (3 + k) % 2 ^ 8)
      ∙ ap (λ (x : ℕ). x % 2 ^ 8) (sym (shr-shr n 3 k) ∙ ap (λ (x : ℕ). x / 2 ^ k) same ∙ shr-shr (n + j) 3 k)

  pub counter_sum : add_round_key (counter_block n) (place j) ≡ counter_block (n + j)
  unfolding add_round_key counter_block place
  counter_sum =
      same_16 (other 117) (other 109) (other 101) (other 93) (other 85) (other 77) (other 69) (other 61) (other 53) (other 45)
      (other 37) (other 29) (other 21) (other 13) (other 5) last

-- the block j places after one whose number is a multiple of sixteen, from the first of its half
pub counter_sum_in_half : (n j : ℕ) → n % 16 ≡ 0 → j < 16
    → add_round_key (counter_block (n + 8 * (j / 8))) (place (j % 8)) ≡ counter_block (n + j)
counter_sum_in_half n j first within =
    let same : n + 8 * (j / 8) + j % 8 ≡ n + j = omega arith in
    counter_sum (n + 8 * (j / 8)) (j % 8) (omega arith) (omega arith) ∙ ap counter_block same
