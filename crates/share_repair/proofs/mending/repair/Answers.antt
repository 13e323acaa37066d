use Rattle.share_repair.proofs.Keeping.{keeps_then, keeps_unchanged}
use Rattle.share_repair.proofs.Putting.{unchanged_then_determined}
use Rattle.share_repair.proofs.mending.repair.Goals as goal

pub returns-clause-kept : goal.returns-clause-kept
returns-clause-kept g c honest =
    keeps_then c.args.index c.args.grid.now c.judged.new.grid c.mend.new.grid
    (keeps_unchanged c.args.index c.args.grid.now c.judged.new.grid (c.in_ok-standing.ensures.unchanged honest))
    (c.mend.ensures.kept (c.in_ok-standing.ensures.leaves.honest honest))

pub returns-clause-puts : goal.returns-clause-puts
returns-clause-puts g c honest =
    unchanged_then_determined c.args.index c.args.grid.now c.judged.new.grid c.mend.new.grid c.in_ok-standing.ensures.leaves
    (c.in_ok-standing.ensures.unchanged honest) (c.mend.ensures.puts (c.in_ok-standing.ensures.leaves.honest honest))
