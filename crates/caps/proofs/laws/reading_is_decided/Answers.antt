use Rattle.caps.proofs.ReadingLemmas.{reading_is_read, reading_is_refused, reading_is_total}
use Rattle.caps.proofs.laws.reading_is_decided.Goals as goal

pub returns-clause-read : goal.returns-clause-read
returns-clause-read c = reading_is_read

pub returns-clause-refused : goal.returns-clause-refused
returns-clause-refused c = reading_is_refused

pub returns-clause-total : goal.returns-clause-total
returns-clause-total c = reading_is_total
