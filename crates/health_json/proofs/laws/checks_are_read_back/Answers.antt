use Rattle.health_json.proofs.Checks.{check_written, check_read, literal_check_written, literal_check_read}
use Rattle.health_json.proofs.Mapped.{mapped_check_written, mapped_check_read}
use Rattle.health_json.proofs.laws.checks_are_read_back.Goals as goal

pub returns-clause-written : goal.returns-clause-written
returns-clause-written c = check_written

pub returns-clause-read : goal.returns-clause-read
returns-clause-read c = check_read c.whole_values_are_read_back.ensures

pub returns-clause-mapped_written : goal.returns-clause-mapped_written
returns-clause-mapped_written c = mapped_check_written

pub returns-clause-mapped_read : goal.returns-clause-mapped_read
returns-clause-mapped_read c = mapped_check_read

pub returns-clause-literal_written : goal.returns-clause-literal_written
returns-clause-literal_written c = literal_check_written

pub returns-clause-literal_read : goal.returns-clause-literal_read
returns-clause-literal_read c = literal_check_read c.whole_values_are_read_back.ensures
