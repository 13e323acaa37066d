use Rattle.std.proofs.Common.{◌≡◌, ℕ, List, ◌++◌, Option, Some, IfSome, Contains, sym, subst, ◌∙◌}
use Rattle.std.specs.Option.{option_to_list}
use Rattle.caps.specs.Fields.{ReadValue}
use Rattle.chk_file.specs.Cached.{CacheEntry, AreBound}
use Rattle.chk_file.specs.Seen.{cache_entries, pinned_entries, gathered_entries, gathered_file}
use Rattle.file_shares.specs.declared.kept_strings.Gathered.{Gathered}
use Rattle.chk_file.proofs.CacheEntries.{bound_within}
use Rattle.chk_file.proofs.LookUps.{none_gathered_within, given_there}
use Rattle.chk_file.proofs.cache.Cache.take_gathered.Goals as goal

pub invariant_of-self : goal.invariant_of-self
invariant_of-self c =
    let kept : List CacheEntry = cache_entries c.self.inside.kept.entries in
    let pinned : List CacheEntry = pinned_entries c.self.inside.pinned in
    let steps : List CacheEntry = c.self.inside.steps in
    let looking : List CacheEntry = option_to_list c.self.inside.looking in
    let listed : List CacheEntry = option_to_list c.self.inside.listed in
    let old : List CacheEntry = gathered_entries c.self.inside.gathered in (
      subst (λ (o : Option Gathered). AreBound (kept ++ (pinned ++ (steps ++ (looking ++ (listed ++ gathered_entries o)))))) (sym c.take.ensures.after)
          (bound_within _ _ (none_gathered_within kept pinned steps looking listed old) c.self.invariant.0),
      c.self.invariant.1,
    )

pub invariant_of-self-then-is_of : goal.invariant_of-self-then-is_of
invariant_of-self-then-is_of c =
    let kept : List CacheEntry = cache_entries c.self.inside.kept.entries in
    let pinned : List CacheEntry = pinned_entries c.self.inside.pinned in
    let steps : List CacheEntry = c.self.inside.steps in
    let looking : List CacheEntry = option_to_list c.self.inside.looking in
    let listed : List CacheEntry = option_to_list c.self.inside.listed in
    let old : List CacheEntry = gathered_entries c.self.inside.gathered in (
      subst (λ (o : Option Gathered). AreBound (kept ++ (pinned ++ (steps ++ (looking ++ (listed ++ gathered_entries o)))))) (sym c.take.ensures.after)
          (bound_within _ _ (none_gathered_within kept pinned steps looking listed old) c.self.invariant.0),
      c.self.invariant.1,
    )

pub returns-then-is_of-clause-within : goal.returns-then-is_of-clause-within
returns-then-is_of-clause-within c =
    let kept : List CacheEntry = cache_entries c.self.inside.kept.entries in
    let pinned : List CacheEntry = pinned_entries c.self.inside.pinned in
    let steps : List CacheEntry = c.self.inside.steps in
    let looking : List CacheEntry = option_to_list c.self.inside.looking in
    let listed : List CacheEntry = option_to_list c.self.inside.listed in
    let old : List CacheEntry = gathered_entries c.self.inside.gathered in
    subst (λ (entries : List CacheEntry). (entry : CacheEntry) → Contains (kept ++ (pinned ++ (steps ++ (looking ++ (listed ++ gathered_entries c.take.new.self))))) entry → Contains entries entry) c.self.view_is
    (subst (λ (o : Option Gathered). (entry : CacheEntry) → Contains (kept ++ (pinned ++ (steps ++ (looking ++ (listed ++ gathered_entries o))))) entry → Contains (kept ++ (pinned ++ (steps ++ (looking ++ (listed ++ old))))) entry) (sym c.take.ensures.after)
    (none_gathered_within kept pinned steps looking listed old))

pub returns-then-is_of-clause-there : goal.returns-then-is_of-clause-there
returns-then-is_of-clause-there c =
    let kept : List CacheEntry = cache_entries c.self.inside.kept.entries in
    let pinned : List CacheEntry = pinned_entries c.self.inside.pinned in
    let steps : List CacheEntry = c.self.inside.steps in
    let looking : List CacheEntry = option_to_list c.self.inside.looking in
    let listed : List CacheEntry = option_to_list c.self.inside.listed in
    let f : ReadValue = c.in-Some.gathered.fields in
    let stamp : ℕ = c.in-Some.gathered.stamp in
    let given : Option (List ℕ) = gathered_file c.in-Some.gathered in
    let is : c.self.inside.gathered ≡ Some c.in-Some.gathered = sym c.take.ensures.value ∙ c.in-Some.is in
    subst (λ (entries : List CacheEntry). IfSome given (λ bytes. Contains entries (f, (stamp, bytes)))) c.self.view_is
    (subst (λ (o : Option Gathered). IfSome given (λ bytes. Contains (kept ++ (pinned ++ (steps ++ (looking ++ (listed ++ gathered_entries o))))) (f, (stamp, bytes)))) (sym is)
    (given_there f stamp kept pinned steps looking listed given))

pub invariant_of-self-2 : goal.invariant_of-self-2
invariant_of-self-2 c =
    let kept : List CacheEntry = cache_entries c.self.inside.kept.entries in
    let pinned : List CacheEntry = pinned_entries c.self.inside.pinned in
    let steps : List CacheEntry = c.self.inside.steps in
    let looking : List CacheEntry = option_to_list c.self.inside.looking in
    let listed : List CacheEntry = option_to_list c.self.inside.listed in
    let is : c.self.inside.gathered ≡ Some c.in-Some.gathered = sym c.take.ensures.value ∙ c.in-Some.is in
    (subst (λ (o : Option Gathered). AreBound (kept ++ (pinned ++ (steps ++ (looking ++ (listed ++ gathered_entries o)))))) is c.self.invariant.0, c.self.invariant.1)
