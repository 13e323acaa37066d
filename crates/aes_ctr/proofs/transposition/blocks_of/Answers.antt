use Rattle.std.proofs.Common.{ℕ, ◌+◌, ◌*◌, ◌/◌, ◌%◌, ◌∙◌, map}
use Rattle.std.specs.Int.{bit_at}
use Rattle.std.specs.List.{range_with_len}
use Rattle.std.proofs.lemmas.Nat.Bits.{bit_at-lt}
use Rattle.aes_ctr.specs.Planes.{byte_in, byte_of, lanes, sliced}
use Rattle.aes_ctr.specs.Exchanges.{rows_after}
use Rattle.aes_ctr.proofs.BitLemmas.{byte_of_its_bits}
use Rattle.aes_ctr.proofs.ExchangeLemmas.{rows_low}
use Rattle.aes_ctr.proofs.transposition.blocks_of.Goals as goal

pub returns : goal.returns
unfolding sliced byte_of
returns c = λ s low e.
    let bits : ℕ → ℕ → ℕ → ℕ = λ i r k. bit_at (byte_in s i k) r in
    let pairs : ℕ → ℕ → ℕ → ℕ = λ i. rows_after 1 (bits i) in
    let fours : ℕ → ℕ → ℕ → ℕ = λ i. rows_after 2 (pairs i) in
    let bits_low : (i r k : ℕ) → _ = λ i r k. bit_at-lt (byte_in s i k) r in
    let pairs_low : (i r k : ℕ) → _ = λ i. rows_low 1 (bits i) (bits_low i) in
    let fours_low : (i r k : ℕ) → _ = λ i. rows_low 2 (pairs i) (pairs_low i) in
    c.exchanged_by_4.ensures fours fours_low
    (c.exchanged_by_2-fours.ensures pairs pairs_low (c.exchanged_by_1-pairs.ensures bits bits_low e))
    ∙ (λ i. map (λ j. lanes (λ l. byte_of_its_bits (byte_in s l j) (low (j + 8 * (l / 16)) (l % 16)) i)) (range_with_len 0 8))
