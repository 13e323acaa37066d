use Rattle.s3_requests.proofs.NameLemmas.{no_object}
use Rattle.s3_requests.proofs.laws.settings_are_no_object.Goals as goal

pub returns : goal.returns
returns c = no_object
