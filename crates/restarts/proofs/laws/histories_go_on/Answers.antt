use Rattle.restarts.proofs.Histories.{begins, called, crashed, crashed_in_bytes}
use Rattle.restarts.proofs.laws.histories_go_on.Goals as goal

pub returns : goal.returns
returns c = record {
  begins = begins;
  called = called;
  crashed = crashed c.crashes_are_losses.ensures c.came_begins.ensures;
  crashed_in_bytes = crashed_in_bytes c.marks_follow_the_grid.ensures.put c.crashes_are_losses.ensures c.came_begins.ensures;
}
