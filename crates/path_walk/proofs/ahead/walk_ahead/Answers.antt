use Rattle.grid.proofs.Turns.{leaves_none, leaves_both, unchanged_none, unchanged_both}
use Rattle.grid.proofs.Views.{tell_on_none, tell_on_both, still_none, still_both}
use Rattle.chk_file.proofs.Amid.{kept_within, kept_both}
use Rattle.path_walk.proofs.ahead.walk_ahead.Goals as goal

pub returns-in-Waits-clause-fresh : goal.returns-in-Waits-clause-fresh
returns-in-Waits-clause-fresh g c fresh = c.in-Waits.ensures.fresh (c.loop-name.invariant.fresh fresh)

pub returns-in-Over-clause-fresh : goal.returns-in-Over-clause-fresh
returns-in-Over-clause-fresh g c fresh = c.in-Over.ensures.fresh (c.loop-name.invariant.fresh fresh)

pub loop-name-init : goal.loop-name-init
loop-name-init g c =
    let grid = c.args.grid.now in
    record {
      leaves = leaves_none grid;
      unchanged = λ _. unchanged_none grid;
      stand_still = still_none grid;
      told = tell_on_none grid;
      fresh = λ fresh. fresh;
      kept_seen = λ all. kept_within grid grid c.args.cache.now c.args.cache.now (λ entry there. there);
    }

pub loop-name-preserved : goal.loop-name-preserved
loop-name-preserved g c =
    let inv = c.loop-name.invariant in
    let one = c.in-At.ensures in
    let old = c.args.grid.now in
    let mid = c.loop-name.grid in
    let new = c.next_ahead.new.grid in
    record {
      leaves = leaves_both old mid new inv.leaves one.leaves;
      unchanged = λ all. unchanged_both old mid new (inv.unchanged all) (one.unchanged (inv.leaves.honest all));
      stand_still = still_both old mid new inv.stand_still one.stand_still;
      told = tell_on_both old mid new inv.told one.told;
      fresh = λ fresh. one.fresh (inv.fresh fresh);
      kept_seen = λ all. kept_both old mid new c.args.cache.now c.loop-name.cache c.next_ahead.new.cache inv.told inv.stand_still one.told (inv.kept_seen all) (one.kept_seen (inv.told.all all));
    }

pub returns-in-Waits-clause-stand_still : goal.returns-in-Waits-clause-stand_still
returns-in-Waits-clause-stand_still g c = still_both c.args.grid.now c.loop-name.grid c.next_ahead.new.grid c.loop-name.invariant.stand_still c.in-Waits.ensures.stand_still

pub returns-in-Waits-clause-told : goal.returns-in-Waits-clause-told
returns-in-Waits-clause-told g c = tell_on_both c.args.grid.now c.loop-name.grid c.next_ahead.new.grid c.loop-name.invariant.told c.in-Waits.ensures.told

pub returns-in-Waits-clause-kept_seen : goal.returns-in-Waits-clause-kept_seen
returns-in-Waits-clause-kept_seen g c all =
    let inv = c.loop-name.invariant in
    let one = c.in-Waits.ensures in
    kept_both c.args.grid.now c.loop-name.grid c.next_ahead.new.grid c.args.cache.now c.loop-name.cache c.next_ahead.new.cache inv.told inv.stand_still one.told (inv.kept_seen all) (one.kept_seen (inv.told.all all))

pub returns-in-Over-clause-stand_still : goal.returns-in-Over-clause-stand_still
returns-in-Over-clause-stand_still g c = still_both c.args.grid.now c.loop-name.grid c.next_ahead.new.grid c.loop-name.invariant.stand_still c.in-Over.ensures.stand_still

pub returns-in-Over-clause-told : goal.returns-in-Over-clause-told
returns-in-Over-clause-told g c = tell_on_both c.args.grid.now c.loop-name.grid c.next_ahead.new.grid c.loop-name.invariant.told c.in-Over.ensures.told

pub returns-in-Over-clause-kept_seen : goal.returns-in-Over-clause-kept_seen
returns-in-Over-clause-kept_seen g c all =
    let inv = c.loop-name.invariant in
    let one = c.in-Over.ensures in
    kept_both c.args.grid.now c.loop-name.grid c.next_ahead.new.grid c.args.cache.now c.loop-name.cache c.next_ahead.new.cache inv.told inv.stand_still one.told (inv.kept_seen all) (one.kept_seen (inv.told.all all))

pub returns-in-Waits-clause-leaves : goal.returns-in-Waits-clause-leaves
returns-in-Waits-clause-leaves g c = leaves_both c.args.grid.now c.loop-name.grid c.next_ahead.new.grid c.loop-name.invariant.leaves c.in-Waits.ensures.leaves

pub returns-in-Over-clause-leaves : goal.returns-in-Over-clause-leaves
returns-in-Over-clause-leaves g c = leaves_both c.args.grid.now c.loop-name.grid c.next_ahead.new.grid c.loop-name.invariant.leaves c.in-Over.ensures.leaves

pub returns-in_default-clause-stand_still : goal.returns-in_default-clause-stand_still
returns-in_default-clause-stand_still g c = still_none c.args.grid.now

pub returns-in_default-clause-told : goal.returns-in_default-clause-told
returns-in_default-clause-told g c = tell_on_none c.args.grid.now
