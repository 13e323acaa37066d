use Rattle.std.proofs.Common.{refl}
use Rattle.std.specs.FinMap.{empty}
use Rattle.share_shelf.specs.Kept.{told_of, states_from}
use Rattle.share_shelf.proofs.Histories.{length-states_from, told_is_left}
use Rattle.share_shelf.proofs.mem_shelf.MemShelf.history_is_all_that_was_left.Goals as goal

pub returns : goal.returns
returns c =
    let told = told_of c.args.self.now.changes.items in
    record { told = (states_from empty told, refl, length-states_from told empty, λ t d le. told_is_left told t d le) }
