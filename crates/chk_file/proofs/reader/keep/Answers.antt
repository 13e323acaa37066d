use Rattle.std.proofs.Common.{◌≡◌, List, ℕ, sym, subst}
use Rattle.std.specs.Prelude.{MatchOption}
use Rattle.std.specs.Rc.{rc_slice_items}
use Rattle.chk_file.specs.Cached.{CacheEntry, IsWithinOr}
use Rattle.chk_file.proofs.reader.keep.Goals as goal

pub returns : goal.returns
returns c =
    let old : List CacheEntry = c.args.cache.now in
    let new : List CacheEntry = c.put.new.self in
    let within : IsWithinOr old new (c.args.fields.now, (c.in-Some.stamp, rc_slice_items c.args.bytes.now)) =
    subst (λ (b : List ℕ). IsWithinOr old new (c.args.fields.now, (c.in-Some.stamp, b))) c.in-Ok.ensures.cases c.put.ensures in
    subst (λ o. MatchOption o (new ≡ old) (λ stamp. IsWithinOr old new (c.args.fields.now, (stamp, rc_slice_items c.args.bytes.now)))) (sym c.in-Some.is) within
