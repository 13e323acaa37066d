use Rattle.chk_file.proofs.Freshness.{fresh_within}
use Rattle.chk_file.proofs.Amid.{kept_after}
use Rattle.grid.proofs.Views.{tell_on_none, still_none}
use Rattle.chk_file.proofs.gathering.begin_ahead.Goals as goal

pub returns-in-None-clause-fresh : goal.returns-in-None-clause-fresh
returns-in-None-clause-fresh g c fresh = c.begin_gathered.ensures.fresh (fresh_within c.args.cache.now c.let_go_of_read.new.self c.args.grid.now c.let_go_of_read.ensures fresh)

pub returns-in-None-clause-kept_seen : goal.returns-in-None-clause-kept_seen
returns-in-None-clause-kept_seen g c all =
    kept_after c.args.grid.now c.begin_gathered.new.grid c.args.cache.now c.let_go_of_read.new.self c.begin_gathered.new.cache c.let_go_of_read.ensures (c.begin_gathered.ensures.kept_seen all)

pub returns-then-is_gathered-clause-stand_still : goal.returns-then-is_gathered-clause-stand_still
returns-then-is_gathered-clause-stand_still g c = still_none c.args.grid.now

pub returns-then-is_gathered-clause-told : goal.returns-then-is_gathered-clause-told
returns-then-is_gathered-clause-told g c = tell_on_none c.args.grid.now

pub returns-in-Some-clause-stand_still : goal.returns-in-Some-clause-stand_still
returns-in-Some-clause-stand_still g c = still_none c.args.grid.now

pub returns-in-Some-clause-told : goal.returns-in-Some-clause-told
returns-in-Some-clause-told g c = tell_on_none c.args.grid.now
