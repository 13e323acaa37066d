use Rattle.json_view.proofs.Directories.{dir_written, dir_read}
use Rattle.json_view.proofs.Metadata.{spelled_value}
use Rattle.json_view.proofs.laws.directories_are_read_back.Goals as goal

pub returns-clause-metadata : goal.returns-clause-metadata
returns-clause-metadata c = λ entry is. (spelled_value entry.metadata is.metadata).back

pub returns-clause-written : goal.returns-clause-written
returns-clause-written c = dir_written

pub returns-clause-read : goal.returns-clause-read
returns-clause-read c = dir_read c.whole_values_are_read_back.ensures c.reading_is_decided.ensures.read
