use Rattle.s3_requests.proofs.NameLemmas.{one_name}
use Rattle.s3_requests.proofs.laws.objects_are_told_apart.Goals as goal

pub returns : goal.returns
returns c = one_name
