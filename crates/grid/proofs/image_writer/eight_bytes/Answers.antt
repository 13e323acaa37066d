use Rattle.std.proofs.Common.{rules}
use Rattle.grid.specs.Layout.{be64}
use Rattle.grid.proofs.image_writer.eight_bytes.Goals as goal

pub returns : goal.returns
unfolding be64
returns c = search rules
