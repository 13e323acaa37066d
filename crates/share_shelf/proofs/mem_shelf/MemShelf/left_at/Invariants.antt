use Rattle.std.proofs.Common.{◌≡◌}
use Rattle.std.specs.Prelude.{take}
use Rattle.share_shelf.specs.Kept.{told_of}
use Rattle.share_shelf.proofs.mem_shelf.MemShelf.left_at.Given as goal

abbrev pub invariant-loop-at : goal.invariant-loop-at
invariant-loop-at l = told_of l.shelf.changes.items ≡ take l.at (told_of l.self.changes.items)
