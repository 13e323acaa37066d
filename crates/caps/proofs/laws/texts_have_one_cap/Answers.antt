use Rattle.caps.proofs.ReadingLemmas.{one_cap}
use Rattle.caps.proofs.laws.texts_have_one_cap.Goals as goal

pub returns : goal.returns
returns c = one_cap
