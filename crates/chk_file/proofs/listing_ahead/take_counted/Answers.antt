use Rattle.std.proofs.Common.{Contains, sym, subst}
use Rattle.file_shares.specs.Bound.{Bound}
use Rattle.chk_file.specs.Cached.{CacheEntry}
use Rattle.chk_file.proofs.LookUps.{put_back}
use Rattle.chk_file.proofs.listing_ahead.take_counted.Goals as goal

pub returns-in-Ok-clause-there : goal.returns-in-Ok-clause-there
returns-in-Ok-clause-there c = subst (Contains c.args.cache.now) c.in-Ok.ensures.counted c.in_ok-listed.ensures.there

pub returns-in-Ok-clause-bound : goal.returns-in-Ok-clause-bound
returns-in-Ok-clause-bound c = let P : CacheEntry → Type 0 = λ e. Bound e.0 e.1.1 in subst P c.in-Ok.ensures.counted c.in_ok-listed.ensures.bound

pub returns-in-Err-clause-within : goal.returns-in-Err-clause-within
returns-in-Err-clause-within c =
    let P : CacheEntry → Type 0 = λ e. Contains c.args.cache.now e in
    put_back c.args.cache.now c.take_listed.new.self c.put_listed.new.self c.in-Err.listed c.take_listed.ensures.within
    (subst P (sym c.in-Err.ensures.kept) c.in_ok-listed.ensures.there) c.put_listed.ensures
