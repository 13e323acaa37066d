use Rattle.std.proofs.Common.{sym, subst}
use Rattle.share_repair.specs.Kept.{IsStandingShare}
use Rattle.share_repair.proofs.Leaving.{leaves_then}
use Rattle.share_repair.proofs.Keeping.{keeps_lost}
use Rattle.share_repair.proofs.Putting.{puts_none_lost}
use Rattle.share_repair.proofs.mending.clear.Goals as goal

pub loop-one-preserved : goal.loop-one-preserved
loop-one-preserved g c = record {
  leaves = leaves_then c.args.grid.now c.loop-one.grid c.clear_one.new.grid c.loop-one.invariant.leaves c.in_ok-clear_one.ensures.leaves;
  kept = λ honest.
      let stands = subst (IsStandingShare c.args.grid.now c.args.index) (sym c.one-item.is) (c.requires.stands honest c.loop-one.one-index c.one-item.result c.loop-one-test.true) in
      keeps_lost c.args.index c.one-item.result c.args.grid.now c.loop-one.grid c.clear_one.new.grid (c.loop-one.invariant.kept honest) stands (c.in_ok-clear_one.ensures.kept (c.loop-one.invariant.leaves.honest honest));
  puts = λ honest.
      puts_none_lost c.args.index c.one-item.result c.args.grid.now c.loop-one.grid c.clear_one.new.grid (c.loop-one.invariant.puts honest) (c.in_ok-clear_one.ensures.kept (c.loop-one.invariant.leaves.honest honest));
}

pub returns-in_err-clear_one-clause-leaves : goal.returns-in_err-clear_one-clause-leaves
returns-in_err-clear_one-clause-leaves g c = leaves_then c.args.grid.now c.loop-one.grid c.clear_one.new.grid c.loop-one.invariant.leaves c.in_err-clear_one.ensures.leaves

pub returns-in_err-clear_one-clause-kept : goal.returns-in_err-clear_one-clause-kept
returns-in_err-clear_one-clause-kept g c honest =
    let stands = subst (IsStandingShare c.args.grid.now c.args.index) (sym c.one-item.is) (c.requires.stands honest c.loop-one.one-index c.one-item.result c.loop-one-test.true) in
    keeps_lost c.args.index c.one-item.result c.args.grid.now c.loop-one.grid c.clear_one.new.grid (c.loop-one.invariant.kept honest) stands (c.in_err-clear_one.ensures.kept (c.loop-one.invariant.leaves.honest honest))

pub returns-in_err-clear_one-clause-puts : goal.returns-in_err-clear_one-clause-puts
returns-in_err-clear_one-clause-puts g c honest =
    puts_none_lost c.args.index c.one-item.result c.args.grid.now c.loop-one.grid c.clear_one.new.grid (c.loop-one.invariant.puts honest) (c.in_err-clear_one.ensures.kept (c.loop-one.invariant.leaves.honest honest))
