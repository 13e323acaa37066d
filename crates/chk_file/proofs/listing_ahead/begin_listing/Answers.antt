use Rattle.std.proofs.Common.{Option, IfSome, Contains, subst}
use Rattle.chk_file.specs.Cached.{CacheEntry}
use Rattle.chk_file.proofs.LookUps.{put_back}
use Rattle.chk_file.proofs.listing_ahead.begin_listing.Goals as goal

pub returns-in-Ok-Some : goal.returns-in-Ok-Some
returns-in-Ok-Some g c =
    put_back c.args.cache.now c.listed_at.new.cache c.put_listed.new.self c.in-Ok-Some.listed c.listed_at.ensures.within
    (subst (λ (o : Option CacheEntry). IfSome o (Contains c.args.cache.now)) c.in-Ok-Some.field-0-is c.in-Ok-Some.ensures.there) c.put_listed.ensures
