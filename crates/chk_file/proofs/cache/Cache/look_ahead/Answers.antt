use Rattle.chk_file.proofs.Freshness.{fresh_within}
use Rattle.chk_file.proofs.LookUps.{put_back}
use Rattle.grid.proofs.Views.{tell_on_none, still_none}
use Rattle.chk_file.proofs.Amid.{kept_within, kept_after}
use Rattle.chk_file.proofs.cache.Cache.look_ahead.Goals as goal

pub returns-then-is_of-clause-fresh : goal.returns-then-is_of-clause-fresh
returns-then-is_of-clause-fresh g c =
    fresh_within c.args.self.now c.look_on.new.cache c.args.grid.now
    (put_back c.args.self.now c.take_looking.new.self c.look_on.new.cache c.in-Some-take_looking.looking c.take_looking.ensures.within c.in-Some-take_looking.ensures.there c.look_on.ensures)

pub returns-clause-fresh : goal.returns-clause-fresh
returns-clause-fresh g c fresh = c.read_first.ensures.fresh (fresh_within c.args.self.now c.take_looking.new.self c.args.grid.now c.take_looking.ensures.within fresh)

pub returns-then-is_of-clause-kept_seen : goal.returns-then-is_of-clause-kept_seen
returns-then-is_of-clause-kept_seen g c all =
    kept_within c.args.grid.now c.args.grid.now c.args.self.now c.look_on.new.cache
    (put_back c.args.self.now c.take_looking.new.self c.look_on.new.cache c.in-Some-take_looking.looking c.take_looking.ensures.within c.in-Some-take_looking.ensures.there c.look_on.ensures)

pub returns-clause-kept_seen : goal.returns-clause-kept_seen
returns-clause-kept_seen g c all = kept_after c.args.grid.now c.read_first.new.grid c.args.self.now c.take_looking.new.self c.read_first.new.cache c.take_looking.ensures.within (c.read_first.ensures.kept_seen all)

pub returns-in_default-clause-stand_still : goal.returns-in_default-clause-stand_still
returns-in_default-clause-stand_still g c = still_none c.args.grid.now

pub returns-in_default-clause-told : goal.returns-in_default-clause-told
returns-in_default-clause-told g c = tell_on_none c.args.grid.now

pub returns-then-as_str-gt-MOST_IN_A_NAME-clause-stand_still : goal.returns-then-as_str-gt-MOST_IN_A_NAME-clause-stand_still
returns-then-as_str-gt-MOST_IN_A_NAME-clause-stand_still g c = still_none c.args.grid.now

pub returns-then-as_str-gt-MOST_IN_A_NAME-clause-told : goal.returns-then-as_str-gt-MOST_IN_A_NAME-clause-told
returns-then-as_str-gt-MOST_IN_A_NAME-clause-told g c = tell_on_none c.args.grid.now

pub returns-then-is_of-clause-stand_still : goal.returns-then-is_of-clause-stand_still
returns-then-is_of-clause-stand_still g c = still_none c.args.grid.now

pub returns-then-is_of-clause-told : goal.returns-then-is_of-clause-told
returns-then-is_of-clause-told g c = tell_on_none c.args.grid.now
