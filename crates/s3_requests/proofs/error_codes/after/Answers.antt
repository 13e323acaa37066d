use Rattle.s3_requests.proofs.CodeLemmas.{begins_not, rest_after}
use Rattle.s3_requests.proofs.error_codes.after.Goals as goal

pub returns-in-Some : goal.returns-in-Some
returns-in-Some c = rest_after c.args.text.now c.args.beginning.now c.in-Some.rest.now c.in-Some.ensures.cases.0 c.in-Some.ensures.cases.1

pub returns-in-None : goal.returns-in-None
returns-in-None c = begins_not c.args.text.now c.args.beginning.now c.in-None.ensures.cases
