use Rattle.std.proofs.Common.{List, Contains, sym, subst}
use Rattle.chk_file.specs.Cached.{CacheEntry, IsCacheCurrent}
use Rattle.grid.proofs.Views.{tell_on_none, still_none}
use Rattle.chk_file.proofs.Amid.{kept_after}
use Rattle.chk_file.proofs.cache.Cache.read_ahead.Goals as goal

pub returns-in-None-clause-fresh : goal.returns-in-None-clause-fresh
returns-in-None-clause-fresh g c fresh = c.begin_ahead.ensures.fresh (subst (λ (cache : List CacheEntry). IsCacheCurrent cache c.args.grid.now) (sym c.take_ahead.ensures) fresh)

pub returns-then-not-can_read_ahead-clause-stand_still : goal.returns-then-not-can_read_ahead-clause-stand_still
returns-then-not-can_read_ahead-clause-stand_still g c = still_none c.args.grid.now

pub returns-then-not-can_read_ahead-clause-told : goal.returns-then-not-can_read_ahead-clause-told
returns-then-not-can_read_ahead-clause-told g c = tell_on_none c.args.grid.now

pub returns-in-Some-clause-stand_still : goal.returns-in-Some-clause-stand_still
returns-in-Some-clause-stand_still g c = still_none c.args.grid.now

pub returns-in-Some-clause-told : goal.returns-in-Some-clause-told
returns-in-Some-clause-told g c = tell_on_none c.args.grid.now

pub returns-in-None-clause-kept_seen : goal.returns-in-None-clause-kept_seen
returns-in-None-clause-kept_seen g c all =
    kept_after c.args.grid.now c.begin_ahead.new.grid c.args.self.now c.take_ahead.new.self c.begin_ahead.new.cache
    (λ entry there. subst (λ (entries : List CacheEntry). Contains entries entry) c.take_ahead.ensures there) (c.begin_ahead.ensures.kept_seen all)
