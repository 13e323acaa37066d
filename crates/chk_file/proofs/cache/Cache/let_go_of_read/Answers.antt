use Rattle.std.proofs.Common.{List, Contains, subst}
use Rattle.std.specs.Option.{option_to_list}
use Rattle.chk_file.specs.Cached.{CacheEntry}
use Rattle.chk_file.specs.Seen.{cache_entries, pinned_entries, gathered_entries}
use Rattle.chk_file.proofs.CacheEntries.{bound_within}
use Rattle.chk_file.proofs.LookUps.{none_gathered_within}
use Rattle.chk_file.proofs.cache.Cache.let_go_of_read.Goals as goal

pub invariant_of-self : goal.invariant_of-self
invariant_of-self c =
    let kept : List CacheEntry = cache_entries c.self.inside.kept.entries in
    let pinned : List CacheEntry = pinned_entries c.self.inside.pinned in
    let steps : List CacheEntry = c.self.inside.steps in
    let looking : List CacheEntry = option_to_list c.self.inside.looking in
    let listed : List CacheEntry = option_to_list c.self.inside.listed in
    let old : List CacheEntry = gathered_entries c.self.inside.gathered in
    (bound_within _ _ (none_gathered_within kept pinned steps looking listed old) c.self.invariant.0, c.self.invariant.1)

pub returns : goal.returns
returns c entry there =
    let kept : List CacheEntry = cache_entries c.self.inside.kept.entries in
    let pinned : List CacheEntry = pinned_entries c.self.inside.pinned in
    let steps : List CacheEntry = c.self.inside.steps in
    let looking : List CacheEntry = option_to_list c.self.inside.looking in
    let listed : List CacheEntry = option_to_list c.self.inside.listed in
    let old : List CacheEntry = gathered_entries c.self.inside.gathered in
    subst (λ entries. Contains entries entry) c.self.view_is (none_gathered_within kept pinned steps looking listed old entry there)
