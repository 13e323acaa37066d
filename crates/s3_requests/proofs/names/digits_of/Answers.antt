use Rattle.std.proofs.Common.{rules, append_assoc}
use Rattle.s3_requests.specs.ObjectNames.{name_digits}
use Rattle.s3_requests.proofs.names.digits_of.Goals as goal

pub returns : goal.returns
unfolding name_digits
returns c = search (rules, append_assoc)
