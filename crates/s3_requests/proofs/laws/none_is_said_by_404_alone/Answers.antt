use Rattle.s3_requests.proofs.AnswerLemmas.{only_404}
use Rattle.s3_requests.proofs.laws.none_is_said_by_404_alone.Goals as goal

pub returns : goal.returns
returns c = only_404
