use Rattle.grid.proofs.Turns.{leaves_both, unchanged_both}
use Rattle.grid.proofs.Views.{tell_on_both, still_both}
use Rattle.chk_file.proofs.Amid.{kept_both}
use Rattle.chk_file.proofs.held.read_step.Goals as goal

pub returns-clause-leaves : goal.returns-clause-leaves
returns-clause-leaves g c = leaves_both c.args.grid.now c.read_ahead.new.grid c.begin.new.grid c.read_ahead.ensures.leaves c.begin.ensures.leaves

pub returns-clause-unchanged : goal.returns-clause-unchanged
returns-clause-unchanged g c all =
    unchanged_both c.args.grid.now c.read_ahead.new.grid c.begin.new.grid (c.read_ahead.ensures.unchanged all) (c.begin.ensures.unchanged (c.read_ahead.ensures.leaves.honest all))

pub returns-clause-fresh : goal.returns-clause-fresh
returns-clause-fresh g c fresh = c.begin.ensures.fresh (c.read_ahead.ensures.fresh fresh)

pub returns-clause-told : goal.returns-clause-told
returns-clause-told g c = tell_on_both c.args.grid.now c.read_ahead.new.grid c.begin.new.grid c.read_ahead.ensures.told c.begin.ensures.told

pub returns-clause-stand_still : goal.returns-clause-stand_still
returns-clause-stand_still g c = still_both c.args.grid.now c.read_ahead.new.grid c.begin.new.grid c.read_ahead.ensures.stand_still c.begin.ensures.stand_still

pub returns-clause-kept_seen : goal.returns-clause-kept_seen
returns-clause-kept_seen g c all =
    kept_both c.args.grid.now c.read_ahead.new.grid c.begin.new.grid c.args.cache.now c.read_ahead.new.self c.begin.new.cache c.read_ahead.ensures.told c.read_ahead.ensures.stand_still c.begin.ensures.told
    (c.read_ahead.ensures.kept_seen all) (c.begin.ensures.kept_seen (c.read_ahead.ensures.told.all all))
