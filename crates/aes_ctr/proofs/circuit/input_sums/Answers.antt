use Rattle.std.proofs.Common.{refl}
use Rattle.aes_ctr.specs.Circuit.{input_sums}
use Rattle.aes_ctr.proofs.circuit.input_sums.Goals as goal

pub returns : goal.returns
unfolding input_sums
returns c = λ f e. rw e refl
