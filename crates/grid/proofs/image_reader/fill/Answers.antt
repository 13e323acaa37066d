use Rattle.std.proofs.Common.{rules}
use Rattle.grid.proofs.ImageReads.{taken_more}
use Rattle.grid.proofs.image_reader.fill.Goals as goal

pub loop-came-preserved-in-Ok : goal.loop-came-preserved-in-Ok
loop-came-preserved-in-Ok g c = record {
  same = search rules;
  within = search rules;
  taken = taken_more _ _ _ c.loop-came.came _ c.in-Ok.count c.loop-came.buffer c.read.new.buf c.loop-came.invariant.within c.in-Ok.ensures.bound.0 c.loop-came.invariant.taken c.in-Ok.ensures.bytes.0;
}
