use Rattle.json_view.proofs.Files.{file_written, file_read}
use Rattle.json_view.proofs.laws.files_are_read_back.Goals as goal

pub returns-clause-written : goal.returns-clause-written
returns-clause-written c = file_written

pub returns-clause-read : goal.returns-clause-read
returns-clause-read c = file_read c.whole_values_are_read_back.ensures
