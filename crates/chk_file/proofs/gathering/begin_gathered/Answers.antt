use Rattle.std.proofs.Common.{List, Contains, subst}
use Rattle.chk_file.specs.Cached.{CacheEntry}
use Rattle.chk_file.proofs.Amid.{kept_then}
use Rattle.chk_file.proofs.gathering.begin_gathered.Goals as goal

pub returns-clause-kept_seen : goal.returns-clause-kept_seen
returns-clause-kept_seen g c all =
    kept_then c.args.grid.now c.gather.new.grid c.args.cache.now c.gather.new.cache c.judge_gathered.new.self (c.gather.ensures.kept_seen all)
    (λ entry there. subst (λ (entries : List CacheEntry). Contains entries entry) c.judge_gathered.ensures there)
