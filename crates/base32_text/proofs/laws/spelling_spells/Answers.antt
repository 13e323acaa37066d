use Rattle.base32_text.proofs.SpellingLemmas.{spells_spelling}
use Rattle.base32_text.proofs.laws.spelling_spells.Goals as goal

pub returns : goal.returns
returns c = spells_spelling
