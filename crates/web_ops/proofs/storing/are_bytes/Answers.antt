use Rattle.web_ops.proofs.CarriedOut.{all_fit}
use Rattle.web_ops.proofs.storing.are_bytes.Goals as goal

pub returns : goal.returns
returns c = all_fit c.args.bytes.now c.type_inv.bytes
