use Rattle.s3_requests.specs.ErrorCodes.{HasNoCodeBefore}
use Rattle.s3_requests.proofs.error_codes.code_in.Given as goal

abbrev pub invariant-loop-place : goal.invariant-loop-place
invariant-loop-place l = HasNoCodeBefore l.text l.place
