use Rattle.std.proofs.Common.{◌∙◌}
use Rattle.erasure.proofs.Numbered.{nothing, number_at}
use Rattle.erasure.proofs.known.index_of.Goals as goal

pub returns-then-other-number : goal.returns-then-other-number
returns-then-other-number c =
    (c.loop-at-test.true, number_at c.args.given.now c.loop-at.at nothing c.loop-at-test.true ∙ c.if-other-number.true)
