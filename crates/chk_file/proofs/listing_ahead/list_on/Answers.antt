use Rattle.std.proofs.Common.{subst}
use Rattle.chk_file.specs.Cached.{CacheEntry, IsWithinOr}
use Rattle.chk_file.proofs.listing_ahead.list_on.Goals as goal

pub returns-in-Ok : goal.returns-in-Ok
returns-in-Ok c =
    let P : CacheEntry → Type 0 = λ e. IsWithinOr c.args.cache.now c.put_listed.new.self e in
    subst P c.in-Ok.ensures c.put_listed.ensures
