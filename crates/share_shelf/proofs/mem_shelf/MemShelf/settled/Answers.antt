use Rattle.std.specs.FinMap.{empty}
use Rattle.share_shelf.specs.Kept.{told_of, after_changes}
use Rattle.share_shelf.proofs.Moments.{had_last, had_now}
use Rattle.share_shelf.proofs.mem_shelf.MemShelf.settled.Goals as goal

pub returns : goal.returns
returns c =
    let told = told_of c.args.self.now.changes.items in
    (after_changes told empty, (λ d had. had_last told d had), had_now told)
