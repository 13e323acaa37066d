use Rattle.std.proofs.Common.{◌≡◌, List, sym, subst}
use Rattle.std.specs.Prelude.{MatchOption}
use Rattle.chk_file.specs.Cached.{CacheEntry, IsWithinOr}
use Rattle.file_shares.specs.Downloads.{DownloadValue}
use Rattle.chk_file.proofs.long_reader.keep.Goals as goal

pub returns : goal.returns
returns c =
    let old : List CacheEntry = c.args.cache.now in
    let new : List CacheEntry = c.pin.new.self in
    let within : IsWithinOr old new (c.args.fields.now, (c.in-Some.stamp, c.args.shares.now.left)) =
    subst (λ (d : DownloadValue). IsWithinOr old new (c.args.fields.now, (c.in-Some.stamp, d.left))) c.in-Ok.ensures c.pin.ensures in
    subst (λ o. MatchOption o (new ≡ old) (λ stamp. IsWithinOr old new (c.args.fields.now, (stamp, c.args.shares.now.left)))) (sym c.in-Some.is) within
