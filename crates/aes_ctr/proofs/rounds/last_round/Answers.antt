use Rattle.aes_ctr.specs.Rounds.{sub_bytes, shift_rows}
use Rattle.aes_ctr.proofs.rounds.last_round.Goals as goal

pub returns : goal.returns
returns c = λ s t low ex ek.
    c.added.ensures (λ j. shift_rows (sub_bytes (s j))) t (c.shifted.ensures (λ j. sub_bytes (s j)) (c.substituted.ensures s low ex)) ek
