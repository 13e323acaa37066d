use Rattle.std.proofs.Common.{◌≡◌, ◌⊎◌, List, ◌++◌, Contains, subst}
use Rattle.std.specs.Option.{option_to_list}
use Rattle.chk_file.specs.Cached.{CacheEntry}
use Rattle.chk_file.specs.Seen.{cache_entries, pinned_entries, step_entry, gathered_entries}
use Rattle.chk_file.proofs.CacheEntries.{bound_within_or}
use Rattle.chk_file.proofs.LookUps.{within_or_steps}
use Rattle.chk_file.proofs.cache.Cache.add_step.Goals as goal

pub invariant_of-self : goal.invariant_of-self
invariant_of-self c =
    let kept : List CacheEntry = cache_entries c.self.inside.kept.entries in
    let pinned : List CacheEntry = pinned_entries c.self.inside.pinned in
    let old : List CacheEntry = c.self.inside.steps in
    let new : List CacheEntry = c.add.new.self in
    let looking : List CacheEntry = option_to_list c.self.inside.looking ++ (option_to_list c.self.inside.listed ++ gathered_entries c.self.inside.gathered) in
    let put : CacheEntry = step_entry c.args.step in
    (bound_within_or _ _ put (within_or_steps kept pinned old new looking put c.add.ensures) c.requires c.self.invariant.0, c.self.invariant.1)

pub returns : goal.returns
returns c entry there =
    let kept : List CacheEntry = cache_entries c.self.inside.kept.entries in
    let pinned : List CacheEntry = pinned_entries c.self.inside.pinned in
    let old : List CacheEntry = c.self.inside.steps in
    let new : List CacheEntry = c.add.new.self in
    let looking : List CacheEntry = option_to_list c.self.inside.looking ++ (option_to_list c.self.inside.listed ++ gathered_entries c.self.inside.gathered) in
    let put : CacheEntry = step_entry c.args.step in
    subst (λ entries. Contains entries entry ⊎ (entry ≡ put)) c.self.view_is (within_or_steps kept pinned old new looking put c.add.ensures entry there)
