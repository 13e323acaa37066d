use Rattle.std.proofs.Common.{ℕ, List}
use Rattle.aes_ctr.specs.Rounds.{sub_bytes, shift_rows, mix_columns}
use Rattle.aes_ctr.proofs.ByteLemmas.{shifted_low}
use Rattle.aes_ctr.proofs.rounds.round.Goals as goal

pub returns : goal.returns
returns c = λ s t low ex ek.
    let turned : ℕ → List ℕ = λ j. shift_rows (sub_bytes (s j)) in
    c.added.ensures (λ j. mix_columns (turned j)) t (c.mixed.ensures turned (λ j. shifted_low (s j))
    (c.shifted.ensures (λ j. sub_bytes (s j)) (c.substituted.ensures s low ex))) ek
