use Rattle.chk_file.proofs.Freshness.{fresh_within}
use Rattle.chk_file.proofs.Amid.{kept_then}
use Rattle.chk_file.proofs.listing_ahead.list_first.Goals as goal

pub returns-in-Ok-true-clause-fresh : goal.returns-in-Ok-true-clause-fresh
returns-in-Ok-true-clause-fresh g c fresh = fresh_within c.read_step.new.cache c.begin_listing.new.cache c.read_step.new.grid c.begin_listing.ensures (c.read_step.ensures.fresh fresh)

pub returns-in-Ok-true-clause-kept_seen : goal.returns-in-Ok-true-clause-kept_seen
returns-in-Ok-true-clause-kept_seen g c all = kept_then c.args.grid.now c.read_step.new.grid c.args.cache.now c.read_step.new.cache c.begin_listing.new.cache (c.read_step.ensures.kept_seen all) c.begin_listing.ensures
