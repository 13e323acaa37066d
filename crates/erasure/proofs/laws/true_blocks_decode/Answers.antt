use Rattle.erasure.proofs.Coding.{restored}
use Rattle.erasure.proofs.laws.true_blocks_decode.Goals as goal

pub returns : goal.returns
returns c = restored
