use Rattle.chk_file.proofs.Freshness.{fresh_within}
use Rattle.chk_file.proofs.Amid.{kept_then}
use Rattle.chk_file.proofs.cache.Cache.look_now.Goals as goal

pub returns-then-is_ok-clause-fresh : goal.returns-then-is_ok-clause-fresh
returns-then-is_ok-clause-fresh g c fresh = fresh_within c.begin.new.cache c.keep_found.new.cache c.begin.new.grid c.keep_found.ensures (c.begin.ensures.fresh fresh)

pub returns-then-is_ok-clause-kept_seen : goal.returns-then-is_ok-clause-kept_seen
returns-then-is_ok-clause-kept_seen g c all = kept_then c.args.grid.now c.begin.new.grid c.args.self.now c.begin.new.cache c.keep_found.new.cache (c.begin.ensures.kept_seen all) c.keep_found.ensures
