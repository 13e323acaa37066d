use Rattle.octets.proofs.NumberLaws.{one_text}
use Rattle.octets.proofs.laws.numbers_have_one_text.Goals as goal

pub returns : goal.returns
returns c = one_text
