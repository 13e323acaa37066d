use Rattle.std.proofs.Common.{◌≡◌, ◌⊎◌, List, Contains, subst}
use Rattle.std.specs.Option.{option_to_list}
use Rattle.chk_file.specs.Cached.{CacheEntry}
use Rattle.chk_file.specs.Seen.{cache_entries, pinned_entries, gathered_entries}
use Rattle.chk_file.proofs.CacheEntries.{bound_within_or}
use Rattle.chk_file.proofs.LookUps.{one_listed_within}
use Rattle.chk_file.proofs.cache.Cache.put_listed.Goals as goal

pub invariant_of-self : goal.invariant_of-self
invariant_of-self c =
    let kept : List CacheEntry = cache_entries c.self.inside.kept.entries in
    let pinned : List CacheEntry = pinned_entries c.self.inside.pinned in
    let steps : List CacheEntry = c.self.inside.steps in
    let looking : List CacheEntry = option_to_list c.self.inside.looking in
    let old : List CacheEntry = option_to_list c.self.inside.listed in
    let rest : List CacheEntry = gathered_entries c.self.inside.gathered in
    (bound_within_or _ _ c.args.listed (one_listed_within kept pinned steps looking old rest c.args.listed) c.requires c.self.invariant.0, c.self.invariant.1)

pub returns : goal.returns
returns c entry there =
    let kept : List CacheEntry = cache_entries c.self.inside.kept.entries in
    let pinned : List CacheEntry = pinned_entries c.self.inside.pinned in
    let steps : List CacheEntry = c.self.inside.steps in
    let looking : List CacheEntry = option_to_list c.self.inside.looking in
    let old : List CacheEntry = option_to_list c.self.inside.listed in
    let rest : List CacheEntry = gathered_entries c.self.inside.gathered in
    subst (λ entries. Contains entries entry ⊎ (entry ≡ c.args.listed)) c.self.view_is (one_listed_within kept pinned steps looking old rest c.args.listed entry there)
