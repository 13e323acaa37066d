use Rattle.range_view.specs.Asked.{asked}
use Rattle.range_view.proofs.WithinLemmas.{within}
use Rattle.range_view.proofs.laws.parts_are_within.Goals as goal

pub returns : goal.returns
returns c = λ text size from to e. within (asked text) size from to e
