use Rattle.gf_field.proofs.LaneSteps.{doubled_lanes}
use Rattle.gf_field.proofs.lanes.double_lanes.Goals as goal

pub returns : goal.returns
returns c = rw c.fits-a.0 at (doubled_lanes c.args.a c.fits-a.1)
