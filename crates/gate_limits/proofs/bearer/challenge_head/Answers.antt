use Rattle.std.proofs.Common.{refl}
use Rattle.std.specs.Fmt.{digits}
use Rattle.gate_limits.proofs.bearer.challenge_head.Goals as goal

pub returns : goal.returns
unfolding digits
returns c = refl
