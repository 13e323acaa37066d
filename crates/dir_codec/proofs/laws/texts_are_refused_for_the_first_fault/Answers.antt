use Rattle.dir_codec.proofs.Refused.{text_refused}
use Rattle.dir_codec.proofs.laws.texts_are_refused_for_the_first_fault.Goals as goal

pub returns : goal.returns
returns c = text_refused c.netstrings_are_read_back.ensures.reads_nothing_else c.netstrings_are_read_back.ensures.reads_back (c.reading_is_decided.ensures.read, c.reading_is_decided.ensures.refused, c.reading_is_decided.ensures.total)
