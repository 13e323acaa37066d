use Rattle.std.proofs.Common.{refl}
use Rattle.aes_ctr.specs.Circuit.{norm}
use Rattle.aes_ctr.proofs.circuit.norm.Goals as goal

pub returns : goal.returns
unfolding norm
returns c = λ f e. rw e refl
