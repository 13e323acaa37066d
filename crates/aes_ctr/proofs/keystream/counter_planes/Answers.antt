use Rattle.std.proofs.Common.{◌≡◌, ℕ, ◌+◌, ◌*◌, ◌/◌, ◌%◌, List, ap, ◌∙◌, arith}
use Rattle.aes_ctr.specs.Rounds.{add_round_key}
use Rattle.aes_ctr.specs.Keystream.{counter_block}
use Rattle.aes_ctr.specs.Planes.{place}
use Rattle.aes_ctr.proofs.CounterLemmas.{counter_bytes, counter_sum_in_half, planes_same}
use Rattle.aes_ctr.proofs.keystream.counter_planes.Goals as goal

pub returns : goal.returns
returns c =
    let n = c.args.number in
    let first : ℕ → List ℕ = λ h. counter_block (n + 8 * h) in
    let from : n ≡ n + 8 * 0 = omega arith in
    let from_eight : n + 8 ≡ n + 8 * 1 = omega arith in
    let low = c.to_be_bytes-low.ensures ∙ counter_bytes n ∙ ap counter_block from in
    let high = c.to_be_bytes-high.ensures ∙ counter_bytes (n + 8) ∙ ap counter_block from_eight in
    c.added.ensures (λ j. first (j / 8)) (λ j. place (j % 8))
    (c.planes_of.ensures first (c.beside.ensures first low high)) c.places.ensures
    ∙ planes_same (λ j. add_round_key (first (j / 8)) (place (j % 8))) (λ j. counter_block (n + j))
    (λ j lt. counter_sum_in_half n j c.requires lt)
