use Rattle.std.proofs.Common.{[]}
use Rattle.dir_codec.specs.DirectoryText.{directory_text}
use Rattle.dir_codec.proofs.Belong.{are_read, written_texts}
use Rattle.dir_codec.proofs.laws.written_directories_are_read_back.Goals as goal

pub returns : goal.returns
returns c = record {
  text = λ entries all. written_texts c.reading_is_decided.ensures.read entries [] all;
  read = λ entries all short. are_read c.netstrings_are_read_back.ensures.reads_nothing_else c.netstrings_are_read_back.ensures.reads_back c.reading_is_decided.ensures.read entries (directory_text entries) short (written_texts c.reading_is_decided.ensures.read entries [] all);
}
