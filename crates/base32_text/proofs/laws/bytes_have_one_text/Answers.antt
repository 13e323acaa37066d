use Rattle.base32_text.proofs.SpellingLemmas.{one_text}
use Rattle.base32_text.proofs.laws.bytes_have_one_text.Goals as goal

pub returns : goal.returns
returns c = one_text
