use Rattle.std.proofs.Common.{refl}
use Rattle.aes_ctr.specs.Circuit.{output_sums}
use Rattle.aes_ctr.proofs.circuit.output_sums.Goals as goal

pub returns : goal.returns
unfolding output_sums
returns c = λ f e. rw e refl
