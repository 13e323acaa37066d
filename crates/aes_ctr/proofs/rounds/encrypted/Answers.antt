use Rattle.std.proofs.Common.{◌≡◌, ℕ, ◌+◌, ◌-◌, ap, ◌∙◌, arith}
use Rattle.aes_ctr.specs.KeyExpansion.{round_key}
use Rattle.aes_ctr.specs.Cipher.{after_rounds}
use Rattle.aes_ctr.specs.Planes.{planes}
use Rattle.aes_ctr.proofs.ByteLemmas.{after_rounds_low}
use Rattle.aes_ctr.proofs.RoundLemmas.{no_rounds, one_round_more, last_round}
use Rattle.aes_ctr.proofs.rounds.encrypted.Goals as goal

pub loop-n-init : goal.loop-n-init
loop-n-init c = λ key s kl sl expanded start.
    c.added-x.ensures s (λ j. round_key key 0) start (expanded 0 (omega arith)) ∙ (λ i. planes (λ j. no_rounds key (s j) i))

pub loop-n-preserved : goal.loop-n-preserved
loop-n-preserved c = λ key s kl sl expanded start.
    let n = c.loop-n.n in
    let m = n - 1 in
    let at : n ≡ m + 1 = omega arith in
    let so : n + 1 - 1 ≡ m + 1 = omega arith in
    let before = c.loop-n.invariant key s kl sl expanded start in
    let keyed = expanded n (omega arith) ∙ ap (λ (k : ℕ). planes (λ j. round_key key k)) at in
    rw so (c.round-next.ensures (λ j. after_rounds key (s j) m) (λ j. round_key key (m + 1))
    (λ j. after_rounds_low key (s j) kl (sl j) m) before keyed
    ∙ (λ i. planes (λ j. one_round_more key (s j) m i)))

pub returns : goal.returns
returns c = λ key s kl sl expanded start.
    let nine : c.loop-n.n - 1 ≡ 9 = omega arith in
    let before = c.loop-n.invariant key s kl sl expanded start ∙ ap (λ (k : ℕ). planes (λ j. after_rounds key (s j) k)) nine in
    c.last_round.ensures (λ j. after_rounds key (s j) 9) (λ j. round_key key 10)
    (λ j. after_rounds_low key (s j) kl (sl j) 9) before (expanded 10 (omega arith))
    ∙ (λ i. planes (λ j. last_round key (s j) i))
