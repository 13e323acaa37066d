use Rattle.std.proofs.Common.{ℕ, List, ◌++◌, Option, subst}
use Rattle.std.specs.Prelude.{MatchOption}
use Rattle.std.specs.Option.{option_to_list}
use Rattle.caps.specs.Fields.{ReadValue}
use Rattle.chk_file.specs.Cached.{CacheEntry, IsWithin, IsWithinOr}
use Rattle.chk_file.specs.Seen.{cache_entries, pinned_entries, gathered_entries, gathered_file}
use Rattle.chk_file.proofs.LookUps.{entries_of, given_within, bound_given}
use Rattle.chk_file.proofs.cache.Cache.put_gathered.Goals as goal

pub invariant_of-self : goal.invariant_of-self
invariant_of-self c =
    let kept : List CacheEntry = cache_entries c.self.inside.kept.entries in
    let pinned : List CacheEntry = pinned_entries c.self.inside.pinned in
    let steps : List CacheEntry = c.self.inside.steps in
    let looking : List CacheEntry = option_to_list c.self.inside.looking in
    let listed : List CacheEntry = option_to_list c.self.inside.listed in
    let old : List CacheEntry = gathered_entries c.self.inside.gathered in
    let f : ReadValue = c.args.gathered.fields in
    let stamp : ℕ = c.args.gathered.stamp in
    let given : Option (List ℕ) = gathered_file c.args.gathered in
    (bound_given f stamp _ _ given (given_within f stamp kept pinned steps looking listed old given) c.args.gathered.bound c.self.invariant.0, c.self.invariant.1)

pub returns : goal.returns
returns c =
    let kept : List CacheEntry = cache_entries c.self.inside.kept.entries in
    let pinned : List CacheEntry = pinned_entries c.self.inside.pinned in
    let steps : List CacheEntry = c.self.inside.steps in
    let looking : List CacheEntry = option_to_list c.self.inside.looking in
    let listed : List CacheEntry = option_to_list c.self.inside.listed in
    let old : List CacheEntry = gathered_entries c.self.inside.gathered in
    let f : ReadValue = c.args.gathered.fields in
    let stamp : ℕ = c.args.gathered.stamp in
    let given : Option (List ℕ) = gathered_file c.args.gathered in
    let new : List CacheEntry = kept ++ (pinned ++ (steps ++ (looking ++ (listed ++ entries_of f stamp given)))) in
    subst (λ (entries : List CacheEntry). MatchOption given (IsWithin entries new) (λ bytes. IsWithinOr entries new (f, (stamp, bytes)))) c.self.view_is
    (given_within f stamp kept pinned steps looking listed old given)
