use Rattle.http_edge.proofs.PlainLemmas.{decimal_plain}
use Rattle.http_edge.proofs.laws.numbers_are_plain.Goals as goal

pub returns : goal.returns
returns c = decimal_plain
