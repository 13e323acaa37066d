use Rattle.std.proofs.Common.{List, ◌++◌, Option, IfSome, Contains, sym, subst}
use Rattle.std.specs.Option.{option_to_list}
use Rattle.file_shares.specs.Bound.{Bound}
use Rattle.chk_file.specs.Cached.{CacheEntry, AreBound}
use Rattle.chk_file.specs.Seen.{cache_entries, pinned_entries, gathered_entries}
use Rattle.chk_file.proofs.CacheEntries.{bound_within}
use Rattle.chk_file.proofs.LookUps.{none_left_within, looking_there, some_so}
use Rattle.chk_file.proofs.cache.Cache.take_looking.Goals as goal

pub invariant_of-self : goal.invariant_of-self
invariant_of-self c =
    let kept : List CacheEntry = cache_entries c.self.inside.kept.entries in
    let pinned : List CacheEntry = pinned_entries c.self.inside.pinned in
    let steps : List CacheEntry = c.self.inside.steps in
    let old : List CacheEntry = option_to_list c.self.inside.looking in
    let listed : List CacheEntry = option_to_list c.self.inside.listed ++ gathered_entries c.self.inside.gathered in (
      subst (λ (o : Option CacheEntry). AreBound (kept ++ (pinned ++ (steps ++ (option_to_list o ++ listed))))) (sym c.take.ensures.after)
          (bound_within _ _ (none_left_within kept pinned steps old listed) c.self.invariant.0),
      c.self.invariant.1,
    )

pub returns-clause-within : goal.returns-clause-within
returns-clause-within c =
    let kept : List CacheEntry = cache_entries c.self.inside.kept.entries in
    let pinned : List CacheEntry = pinned_entries c.self.inside.pinned in
    let steps : List CacheEntry = c.self.inside.steps in
    let old : List CacheEntry = option_to_list c.self.inside.looking in
    let listed : List CacheEntry = option_to_list c.self.inside.listed ++ gathered_entries c.self.inside.gathered in
    subst (λ (entries : List CacheEntry). (entry : CacheEntry) → Contains (kept ++ (pinned ++ (steps ++ (option_to_list c.take.new.self ++ listed)))) entry → Contains entries entry) c.self.view_is
    (subst (λ (o : Option CacheEntry). (entry : CacheEntry) → Contains (kept ++ (pinned ++ (steps ++ (option_to_list o ++ listed)))) entry → Contains (kept ++ (pinned ++ (steps ++ (old ++ listed)))) entry) (sym c.take.ensures.after)
    (none_left_within kept pinned steps old listed))

pub returns-clause-there : goal.returns-clause-there
returns-clause-there c =
    let kept : List CacheEntry = cache_entries c.self.inside.kept.entries in
    let pinned : List CacheEntry = pinned_entries c.self.inside.pinned in
    let steps : List CacheEntry = c.self.inside.steps in
    let listed : List CacheEntry = option_to_list c.self.inside.listed ++ gathered_entries c.self.inside.gathered in
    subst (λ (entries : List CacheEntry). IfSome c.take.result (Contains entries)) c.self.view_is
    (subst (λ (o : Option CacheEntry). IfSome o (Contains (kept ++ (pinned ++ (steps ++ (option_to_list c.self.inside.looking ++ listed)))))) (sym c.take.ensures.value)
    (looking_there kept pinned steps c.self.inside.looking listed))

pub returns-clause-bound : goal.returns-clause-bound
returns-clause-bound c =
    let kept : List CacheEntry = cache_entries c.self.inside.kept.entries in
    let pinned : List CacheEntry = pinned_entries c.self.inside.pinned in
    let steps : List CacheEntry = c.self.inside.steps in
    let listed : List CacheEntry = option_to_list c.self.inside.listed ++ gathered_entries c.self.inside.gathered in
    let all : List CacheEntry = kept ++ (pinned ++ (steps ++ (option_to_list c.self.inside.looking ++ listed))) in
    let Q : CacheEntry → Type 0 = λ e. Bound e.0 e.1.1 in
    subst (λ (o : Option CacheEntry). IfSome o Q) (sym c.take.ensures.value)
    (some_so (Contains all) Q c.self.inside.looking (λ e there. c.self.invariant.0 e.0 e.1.0 e.1.1 there) (looking_there kept pinned steps c.self.inside.looking listed))
