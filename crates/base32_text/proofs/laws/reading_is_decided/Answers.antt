use Rattle.base32_text.proofs.ReadingLemmas.{reading_is_spelled, reading_is_refused}
use Rattle.base32_text.proofs.laws.reading_is_decided.Goals as goal

pub returns-clause-spelled : goal.returns-clause-spelled
returns-clause-spelled c = reading_is_spelled

pub returns-clause-refused : goal.returns-clause-refused
returns-clause-refused c = reading_is_refused
