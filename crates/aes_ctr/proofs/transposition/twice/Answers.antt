use Rattle.std.proofs.Common.{refl}
use Rattle.aes_ctr.proofs.transposition.twice.Goals as goal

pub returns : goal.returns
returns c = c.beside.ensures (λ h. c.args.block) refl refl
