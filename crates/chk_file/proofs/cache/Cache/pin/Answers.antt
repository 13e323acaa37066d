use Rattle.std.proofs.Common.{◌≡◌, ◌⊎◌, List, ◌++◌, Contains, subst}
use Rattle.std.specs.Option.{option_to_list}
use Rattle.chk_file.specs.Cached.{CacheEntry}
use Rattle.chk_file.specs.Seen.{cache_entries, pinned_entries, gathered_entries}
use Rattle.chk_file.proofs.CacheEntries.{within_pinned, bound_within_or}
use Rattle.chk_file.proofs.cache.Cache.pin.Goals as goal

pub invariant_of-self : goal.invariant_of-self
invariant_of-self c =
    let kept : List CacheEntry = cache_entries c.self.inside.kept.entries in
    let old : List CacheEntry = pinned_entries c.self.inside.pinned in
    let rest : List CacheEntry = c.self.inside.steps ++ (option_to_list c.self.inside.looking ++ (option_to_list c.self.inside.listed ++ gathered_entries c.self.inside.gathered)) in
    let put : CacheEntry = (c.args.fields, (c.args.stamp, c.args.shares.left)) in
    (bound_within_or _ _ put (within_pinned kept old rest put) c.requires.bound c.self.invariant.0, c.requires.segments)

pub returns : goal.returns
returns c entry there =
    let kept : List CacheEntry = cache_entries c.self.inside.kept.entries in
    let old : List CacheEntry = pinned_entries c.self.inside.pinned in
    let rest : List CacheEntry = c.self.inside.steps ++ (option_to_list c.self.inside.looking ++ (option_to_list c.self.inside.listed ++ gathered_entries c.self.inside.gathered)) in
    let put : CacheEntry = (c.args.fields, (c.args.stamp, c.args.shares.left)) in
    subst (λ entries. Contains entries entry ⊎ (entry ≡ put)) c.self.view_is (within_pinned kept old rest put entry there)
