use Rattle.std.proofs.Common.{◌≡◌, ◌<◌, ℕ, ◌+◌, ◌-◌, ◌*◌, ◌/◌, ◌%◌, ◌≤◌, List, [], ◌++◌, get_or, length, take, drop, rules, refl, ap, ◌∙◌, arith}
use Rattle.std.proofs.lemmas.List.FromFn.{get_or-map-range_with_len}
use Rattle.std.proofs.lemmas.Slice.{overwrites}
use Rattle.aes_ctr.specs.Planes.{byte_in, lanes}
use Rattle.aes_ctr.proofs.StateLemmas.{block_written, part_long}
use Rattle.aes_ctr.proofs.keystream.joined.Goals as goal

pub loop-j-init : goal.loop-j-init
loop-j-init c = record { long = refl; written = λ s e i within lt. absurd (omega arith) }

pub loop-j-preserved : goal.loop-j-preserved
loop-j-preserved c =
    let j = c.loop-j.j in
    let now = c.loop-j.bytes in
    let low = c.copy_from_slice.new.self in
    let high = c.copy_from_slice-in-loop-j.new.self in
    let later = take (16 * j) now ++ (low ++ drop (16 * j + 16 - 16 * j) (drop (16 * j) now)) in
    let low_long : length low ≡ 16 = c.copy_from_slice.ensures.len ∙ part_long now (16 * j) (omega (arith, c.loop-j.invariant.long)) in
    let later_long : length later ≡ 256 = search (rules, overwrites) in
    let high_long : length high ≡ 16 = c.copy_from_slice-in-loop-j.ensures.len ∙ part_long later (128 + 16 * j) (omega (arith, later_long)) in
    record {
      long = search (rules, overwrites);
      written = λ s e i within lt.
          let f : ℕ → ℕ = λ i. get_or (s (i / 16)) (i % 16) 0 in
          let vector : get_or c.args.blocks j [] ≡ lanes (λ k. byte_in s k j) =
          ap (λ (l : List (List ℕ)). get_or l j []) e
          ∙ get_or-map-range_with_len (λ k. lanes (λ l. byte_in s l k)) 0 8 j j [] (omega arith) (omega arith) in
          let old : i % 128 < 16 * j → get_or now i 0 ≡ f i = c.loop-j.invariant.written s e i within in
          let lower : (k : ℕ) → k < 16 → get_or low k 0 ≡ f (16 * j + k) = λ k kt.
          let number : j + 8 * (k / 16) ≡ (16 * j + k) / 16 = omega arith in
          let place : k % 16 ≡ (16 * j + k) % 16 = omega arith in
          ap (λ (l : List ℕ). get_or l k 0) c.copy_from_slice.ensures.after ∙ c.lower.ensures (λ k. byte_in s k j) vector k kt
          ∙ ap (λ (n : ℕ). get_or (s n) (k % 16) 0) number ∙ ap (λ (m : ℕ). get_or (s ((16 * j + k) / 16)) m 0) place in
          let upper : (k : ℕ) → k < 16 → get_or high k 0 ≡ f (128 + 16 * j + k) = λ k kt.
          let number : j + 8 * ((16 + k) / 16) ≡ (128 + 16 * j + k) / 16 = omega arith in
          let place : (16 + k) % 16 ≡ (128 + 16 * j + k) % 16 = omega arith in
          ap (λ (l : List ℕ). get_or l k 0) c.copy_from_slice-in-loop-j.ensures.after ∙ c.upper.ensures (λ k. byte_in s k j) vector k kt
          ∙ ap (λ (n : ℕ). get_or (s n) ((16 + k) % 16) 0) number ∙ ap (λ (m : ℕ). get_or (s ((128 + 16 * j + k) / 16)) m 0) place in
          let first : (i < 128 + 16 * j → get_or later i 0 ≡ f i) = λ before.
          block_written now low f (16 * j) i (omega arith) low_long lower (λ h. old (omega arith)) (λ h. old (omega arith)) in
          let past : (128 + 16 * j + 16 ≤ i → get_or later i 0 ≡ f i) = λ after. absurd (omega arith) in
          block_written later high f (128 + 16 * j) i (omega (arith, later_long)) high_long upper first past;
    }

pub returns : goal.returns
returns c = λ s e i lt. c.loop-j.invariant.written s e i lt (omega arith)
