use Rattle.base32_text.proofs.SpellingLemmas.{one_meaning}
use Rattle.base32_text.proofs.laws.texts_have_one_meaning.Goals as goal

pub returns : goal.returns
returns c = one_meaning
