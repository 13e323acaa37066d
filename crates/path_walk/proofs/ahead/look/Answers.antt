use Rattle.grid.proofs.Views.{tell_on_none, still_none}
use Rattle.path_walk.proofs.ahead.look.Goals as goal

pub returns-then-min-left-clause-stand_still : goal.returns-then-min-left-clause-stand_still
returns-then-min-left-clause-stand_still g c = still_none c.args.grid.now

pub returns-then-min-left-clause-told : goal.returns-then-min-left-clause-told
returns-then-min-left-clause-told g c = tell_on_none c.args.grid.now

pub returns-then-not-is_its_turn-clause-stand_still : goal.returns-then-not-is_its_turn-clause-stand_still
returns-then-not-is_its_turn-clause-stand_still g c = still_none c.args.grid.now

pub returns-then-not-is_its_turn-clause-told : goal.returns-then-not-is_its_turn-clause-told
returns-then-not-is_its_turn-clause-told g c = tell_on_none c.args.grid.now
