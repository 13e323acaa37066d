use Rattle.dir_codec.proofs.Belong.{belong, are_read, children_are}
use Rattle.dir_codec.proofs.laws.texts_and_entries_belong_together.Goals as goal

pub returns : goal.returns
returns c = record {
  read = are_read c.netstrings_are_read_back.ensures.reads_nothing_else c.netstrings_are_read_back.ensures.reads_back c.reading_is_decided.ensures.read;
  only = belong c.netstrings_are_read_back.ensures.reads_nothing_else c.reading_is_decided.ensures.read;
  children = children_are;
}
