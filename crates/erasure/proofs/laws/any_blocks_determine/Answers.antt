use Rattle.erasure.proofs.Coding.{determined}
use Rattle.erasure.proofs.laws.any_blocks_determine.Goals as goal

pub returns : goal.returns
returns c = determined
