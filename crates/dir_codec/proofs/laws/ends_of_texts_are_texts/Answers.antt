use Rattle.dir_codec.specs.Reading.{directory_reading}
use Rattle.dir_codec.proofs.Ends.{read_alone}
use Rattle.dir_codec.proofs.laws.ends_of_texts_are_texts.Goals as goal

pub returns : goal.returns
unfolding directory_reading
returns c = read_alone c.netstrings_are_read_back.ensures.reads_nothing_else
