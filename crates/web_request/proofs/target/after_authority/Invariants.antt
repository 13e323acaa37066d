use Rattle.std.proofs.Common.{◌≡◌, length}
use Rattle.web_request.specs.Targets.{after_authority}
use Rattle.web_request.proofs.target.after_authority.Given as goal

abbrev pub invariant-loop-rest : goal.invariant-loop-rest
invariant-loop-rest l = after_authority l.rest ≡ after_authority l.text

abbrev pub decreases-loop-rest : goal.decreases-loop-rest
decreases-loop-rest l = length l.rest
