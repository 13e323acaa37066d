use Rattle.std.proofs.Common.{◌≡◌, ℕ, ◌+◌, ap, ◌∙◌, arith}
use Rattle.sha2.specs.Sha256.{rounds, schedule}
use Rattle.tag_hash.specs.Lanes.{scheduled, together, variables_at}
use Rattle.tag_hash.proofs.LaneLemmas.{round_more}
use Rattle.tag_hash.proofs.lanes.numbered_round.Goals as goal

pub returns : goal.returns
returns g c = λ b h word ev.
    let t : ℕ = c.args.from + c.args.place in
    let later : t + 1 ≡ c.args.from + (c.args.place + 1) = omega arith in
    c.round.ensures (λ j. rounds (h j) (schedule (b j) 48) t) (scheduled b t) ev word
    ∙ (λ i. together g.L.Words.of 8 (λ j. round_more (b j) (h j) t i))
    ∙ ap (variables_at g.L.Words.of b h) later
