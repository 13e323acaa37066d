use Rattle.std.proofs.Common.{refl}
use Rattle.aes_ctr.specs.Circuit.{products}
use Rattle.aes_ctr.proofs.circuit.products.Goals as goal

pub returns : goal.returns
unfolding products
returns c = λ f g ey et. rw (ey, et) refl
