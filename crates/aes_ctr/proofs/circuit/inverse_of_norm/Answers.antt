use Rattle.std.proofs.Common.{refl}
use Rattle.aes_ctr.specs.Circuit.{inverse_of_norm}
use Rattle.aes_ctr.proofs.circuit.inverse_of_norm.Goals as goal

pub returns : goal.returns
unfolding inverse_of_norm
returns c = λ f e. rw e refl
