use Rattle.grid.specs.GridState.{IsHonest}
use Rattle.grid.specs.Leaves.{Leaves}
use Rattle.share_repair.specs.Kept.{KeepsGood}
use Rattle.share_repair.specs.Made.{PutsNone}
use Rattle.share_repair.proofs.mending.clear.Given as goal

abbrev pub invariant-loop-one : goal.invariant-loop-one
invariant-loop-one g l = record {
  leaves : Leaves l.fn.grid l.grid;
  kept : IsHonest l.fn.grid → KeepsGood l.index l.fn.grid l.grid;
  puts : IsHonest l.fn.grid → PutsNone l.fn.grid l.grid;
}
