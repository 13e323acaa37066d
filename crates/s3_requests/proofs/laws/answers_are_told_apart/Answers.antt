use Rattle.s3_requests.proofs.AnswerLemmas.{one_answer}
use Rattle.s3_requests.proofs.laws.answers_are_told_apart.Goals as goal

pub returns : goal.returns
returns c = one_answer
