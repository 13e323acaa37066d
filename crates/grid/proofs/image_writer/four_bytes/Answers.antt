use Rattle.std.proofs.Common.{rules}
use Rattle.grid.specs.Layout.{be32}
use Rattle.grid.proofs.image_writer.four_bytes.Goals as goal

pub returns : goal.returns
unfolding be32
returns c = search rules
