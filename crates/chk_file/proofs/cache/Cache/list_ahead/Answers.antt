use Rattle.chk_file.proofs.Freshness.{fresh_within}
use Rattle.chk_file.proofs.LookUps.{put_back}
use Rattle.grid.proofs.Views.{tell_on_none, still_none}
use Rattle.chk_file.proofs.Amid.{kept_within, kept_after}
use Rattle.chk_file.proofs.cache.Cache.list_ahead.Goals as goal

pub returns-then-is_of-clause-fresh : goal.returns-then-is_of-clause-fresh
returns-then-is_of-clause-fresh g c =
    fresh_within c.args.self.now c.list_on.new.cache c.args.grid.now
    (put_back c.args.self.now c.take_listed.new.self c.list_on.new.cache c.in-Some-take_listed.listed c.take_listed.ensures.within c.in-Some-take_listed.ensures.there c.list_on.ensures)

pub returns-clause-fresh : goal.returns-clause-fresh
returns-clause-fresh g c fresh = c.list_first.ensures.fresh (fresh_within c.args.self.now c.take_listed.new.self c.args.grid.now c.take_listed.ensures.within fresh)

pub returns-then-is_of-clause-kept_seen : goal.returns-then-is_of-clause-kept_seen
returns-then-is_of-clause-kept_seen g c all =
    kept_within c.args.grid.now c.args.grid.now c.args.self.now c.list_on.new.cache
    (put_back c.args.self.now c.take_listed.new.self c.list_on.new.cache c.in-Some-take_listed.listed c.take_listed.ensures.within c.in-Some-take_listed.ensures.there c.list_on.ensures)

pub returns-clause-kept_seen : goal.returns-clause-kept_seen
returns-clause-kept_seen g c all = kept_after c.args.grid.now c.list_first.new.grid c.args.self.now c.take_listed.new.self c.list_first.new.cache c.take_listed.ensures.within (c.list_first.ensures.kept_seen all)

pub returns-then-not-can_list_ahead-clause-stand_still : goal.returns-then-not-can_list_ahead-clause-stand_still
returns-then-not-can_list_ahead-clause-stand_still g c = still_none c.args.grid.now

pub returns-then-not-can_list_ahead-clause-told : goal.returns-then-not-can_list_ahead-clause-told
returns-then-not-can_list_ahead-clause-told g c = tell_on_none c.args.grid.now

pub returns-in_default-clause-stand_still : goal.returns-in_default-clause-stand_still
returns-in_default-clause-stand_still g c = still_none c.args.grid.now

pub returns-in_default-clause-told : goal.returns-in_default-clause-told
returns-in_default-clause-told g c = tell_on_none c.args.grid.now

pub returns-then-is_of-clause-stand_still : goal.returns-then-is_of-clause-stand_still
returns-then-is_of-clause-stand_still g c = still_none c.args.grid.now

pub returns-then-is_of-clause-told : goal.returns-then-is_of-clause-told
returns-then-is_of-clause-told g c = tell_on_none c.args.grid.now
