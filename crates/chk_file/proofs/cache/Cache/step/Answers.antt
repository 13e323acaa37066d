use Rattle.std.proofs.Common.{List, ◌++◌, IfSome, Contains, subst}
use Rattle.std.specs.Option.{option_to_list}
use Rattle.std.specs.Borrow.{Bor}
use Rattle.file_shares.specs.Bound.{Bound}
use Rattle.chk_file.specs.Cached.{CacheEntry}
use Rattle.chk_file.specs.Seen.{cache_entries, pinned_entries, step_entry, gathered_entries}
use Rattle.chk_file.specs.declared.steps.Step.{Step}
use Rattle.chk_file.proofs.LookUps.{among_steps, some_so}
use Rattle.chk_file.proofs.cache.Cache.step.Goals as goal

pub returns-clause-there : goal.returns-clause-there
returns-clause-there c =
    let kept : List CacheEntry = cache_entries c.self.inside.kept.entries in
    let pinned : List CacheEntry = pinned_entries c.self.inside.pinned in
    let steps : List CacheEntry = c.self.inside.steps in
    let looking : List CacheEntry = option_to_list c.self.inside.looking ++ (option_to_list c.self.inside.listed ++ gathered_entries c.self.inside.gathered) in
    subst (λ (entries : List CacheEntry). IfSome c.find.result (λ (step : Bor Step). Contains entries (step_entry step.now))) c.self.view_is
    (some_so _ _ c.find.result (λ (step : Bor Step) there. among_steps kept pinned steps looking (step_entry step.now) there) c.find.ensures.there)

pub returns-clause-bound : goal.returns-clause-bound
returns-clause-bound c =
    let kept : List CacheEntry = cache_entries c.self.inside.kept.entries in
    let pinned : List CacheEntry = pinned_entries c.self.inside.pinned in
    let steps : List CacheEntry = c.self.inside.steps in
    let looking : List CacheEntry = option_to_list c.self.inside.looking ++ (option_to_list c.self.inside.listed ++ gathered_entries c.self.inside.gathered) in
    some_so (λ (step : Bor Step). Contains steps (step_entry step.now)) (λ (step : Bor Step). Bound (step_entry step.now).0 (step_entry step.now).1.1) c.find.result
    (λ (step : Bor Step) there.
    let e : CacheEntry = step_entry step.now in
    c.self.invariant.0 e.0 e.1.0 e.1.1 (among_steps kept pinned steps looking e there)) c.find.ensures.there
