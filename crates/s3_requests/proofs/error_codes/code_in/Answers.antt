use Rattle.std.proofs.Common.{take, arith, below_more}
use Rattle.s3_requests.proofs.CodeLemmas.{first_code, no_code, not_here}
use Rattle.s3_requests.proofs.error_codes.code_in.Goals as goal

pub loop-place-init : goal.loop-place-init
loop-place-init c = λ earlier h. absurd (omega arith)

pub loop-place-preserved : goal.loop-place-preserved
loop-place-preserved c =
    below_more _ _ c.loop-place.invariant (not_here (take c.min.result c.args.body.now) c.loop-place.place c.in_default.ensures)

pub returns-in-Some : goal.returns-in-Some
returns-in-Some c =
    first_code c.args.body.now c.in-Some.code.now c.min.result c.loop-place.place c.min.ensures c.loop-place.invariant c.in-Some.ensures

pub returns : goal.returns
returns c = no_code c.args.body.now c.min.result c.loop-place.place c.min.ensures c.loop-place-test.false c.loop-place.invariant
