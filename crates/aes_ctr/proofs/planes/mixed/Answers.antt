use Rattle.std.proofs.Common.{ℕ, List, ◌∙◌}
use Rattle.aes_ctr.specs.Rounds.{add_round_key}
use Rattle.aes_ctr.specs.Planes.{doubled, raised_rows, planes}
use Rattle.aes_ctr.proofs.MixLemmas.{mix_by_sums, sums_low}
use Rattle.aes_ctr.proofs.planes.mixed.Goals as goal

pub returns : goal.returns
returns c = λ s low ex.
    let t : ℕ → List ℕ = λ j. add_round_key (s j) (raised_rows 1 (s j)) in
    let below = c.raised-below.ensures s ex in
    let sums = c.added-sums.ensures s (λ j. raised_rows 1 (s j)) ex below in
    let double = c.doubled.ensures t (λ j. sums_low (s j) (low j)) sums in
    let two = c.added.ensures (λ j. doubled (t j)) (λ j. raised_rows 1 (s j)) double below in
    c.added-2.ensures (λ j. add_round_key (doubled (t j)) (raised_rows 1 (s j))) (λ j. raised_rows 2 (t j)) two (c.raised_twice.ensures t sums)
    ∙ (λ i. planes (λ j. mix_by_sums (s j) (low j) i))
