use Rattle.std.proofs.Common.{refl}
use Rattle.aes_ctr.specs.Planes.{raised_rows}
use Rattle.aes_ctr.proofs.planes.raised_twice.Goals as goal

pub returns : goal.returns
unfolding raised_rows
returns c = λ s ex. rw ex refl
