use Rattle.erasure.proofs.Coding.{coefficients_only}
use Rattle.erasure.proofs.laws.coefficients_are_unique.Goals as goal

pub returns : goal.returns
returns c = coefficients_only
