use Rattle.grid.proofs.Views.{tell_on_none, still_none}
use Rattle.path_walk.proofs.ahead.next_ahead.Goals as goal

pub returns-in_default-clause-stand_still : goal.returns-in_default-clause-stand_still
returns-in_default-clause-stand_still g c = still_none c.args.grid.now

pub returns-in_default-clause-told : goal.returns-in_default-clause-told
returns-in_default-clause-told g c = tell_on_none c.args.grid.now

pub returns-in-DirLit-clause-stand_still : goal.returns-in-DirLit-clause-stand_still
returns-in-DirLit-clause-stand_still g c = still_none c.args.grid.now

pub returns-in-DirLit-clause-told : goal.returns-in-DirLit-clause-told
returns-in-DirLit-clause-told g c = tell_on_none c.args.grid.now

pub returns-in-Chk-clause-stand_still : goal.returns-in-Chk-clause-stand_still
returns-in-Chk-clause-stand_still g c = still_none c.args.grid.now

pub returns-in-Chk-clause-told : goal.returns-in-Chk-clause-told
returns-in-Chk-clause-told g c = tell_on_none c.args.grid.now
