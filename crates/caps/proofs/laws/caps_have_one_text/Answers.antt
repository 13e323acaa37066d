use Rattle.caps.proofs.ReadingLemmas.{has_text, text_is}
use Rattle.caps.proofs.laws.caps_have_one_text.Goals as goal

pub returns-clause-some : goal.returns-clause-some
returns-clause-some c = has_text

pub returns-clause-one : goal.returns-clause-one
returns-clause-one c = text_is
