use Rattle.sha2.specs.Sha256.{add32, small_sigma0, small_sigma1}
use Rattle.tag_hash.proofs.lanes.next_word.Goals as goal

pub returns : goal.returns
returns g c = λ sixteenth fifteenth seventh second e16 e15 e7 e2.
    let high = c.lower_sigma1.ensures second e2 in
    let low = c.lower_sigma0.ensures fifteenth e15 in
    let early = c.plus-early.ensures (λ j. small_sigma1 (second j)) seventh high e7 in
    let more = c.plus.ensures (λ j. add32 (small_sigma1 (second j)) (seventh j)) (λ j. small_sigma0 (fifteenth j)) early low in
    c.plus-2.ensures (λ j. add32 (add32 (small_sigma1 (second j)) (seventh j)) (small_sigma0 (fifteenth j))) sixteenth more e16
