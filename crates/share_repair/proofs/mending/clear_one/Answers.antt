use Rattle.share_repair.proofs.Keeping.{loses_none, loses_same, loses_one}
use Rattle.share_repair.proofs.mending.clear_one.Goals as goal

pub returns-then-number-shares-clause-kept : goal.returns-then-number-shares-clause-kept
returns-then-number-shares-clause-kept g c honest = loses_none c.args.index c.args.one.now c.args.grid.now

pub returns-then-not-gives_way-clause-kept : goal.returns-then-not-gives_way-clause-kept
returns-then-not-gives_way-clause-kept g c honest = loses_none c.args.index c.args.one.now c.args.grid.now

pub returns-in-Ok-clause-kept : goal.returns-in-Ok-clause-kept
returns-in-Ok-clause-kept g c honest =
    loses_one c.args.index c.args.one.now c.args.grid.now c.lose.new.self (c.in-Ok.ensures.ok honest).stands (c.gives_way.ensures.bad c.if-not-gives_way.false)

pub returns-in-Err-clause-kept : goal.returns-in-Err-clause-kept
returns-in-Err-clause-kept g c honest = loses_same c.args.index c.args.one.now c.args.grid.now c.lose.new.self (c.in-Err.ensures.err honest).maps
