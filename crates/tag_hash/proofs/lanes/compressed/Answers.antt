use Rattle.std.proofs.Common.{◌≡◌, ℕ, ◌+◌, ◌-◌, ◌*◌, ap, ◌∙◌, arith}
use Rattle.sha2.specs.Sha256.{compress, rounds, schedule}
use Rattle.tag_hash.specs.Lanes.{variables_at, words_from}
use Rattle.tag_hash.proofs.lanes.compressed.Goals as goal

pub loop-turn-init : goal.loop-turn-init
unfolding rounds
loop-turn-init g c = record {
  scheduled = λ b held. held;
  rounded = λ b h words held. c.first_rounds-v.ensures b h words held;
}

pub loop-turn-preserved : goal.loop-turn-preserved
loop-turn-preserved g c =
    let t : ℕ = 8 * c.loop-turn.turn in
    let there : t - 8 ≡ 8 * (c.loop-turn.turn + 1) - 16 = omega arith in
    let more : t + 8 ≡ 8 * (c.loop-turn.turn + 1) = omega arith in
    record {
      scheduled = λ b words. c.later_rounds-next_words.ensures.words b (c.loop-turn.invariant.scheduled b words) ∙ ap (words_from g.L.Words.of b) there;
      rounded = λ b h words held.
          c.later_rounds-next_words.ensures.rounded b h (c.loop-turn.invariant.scheduled b words) (c.loop-turn.invariant.rounded b h words held)
          ∙ ap (variables_at g.L.Words.of b h) more;
    }

pub returns : goal.returns
unfolding compress
returns g c = λ b h words held.
    let done : 8 * c.loop-turn.turn ≡ 64 = omega arith in
    c.sums.ensures h (λ j. rounds (h j) (schedule (b j) 48) 64) held
    (c.loop-turn.invariant.rounded b h words held ∙ ap (variables_at g.L.Words.of b h) done)
