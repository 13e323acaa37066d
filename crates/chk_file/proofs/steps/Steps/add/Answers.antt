use Rattle.std.proofs.Common.{◌≡◌, ◌⊎◌, List, Contains, subst}
use Rattle.chk_file.specs.Cached.{CacheEntry}
use Rattle.chk_file.specs.Seen.{step_entry}
use Rattle.chk_file.proofs.steps.Steps.add.Goals as goal

pub returns : goal.returns
returns c entry there = subst (λ (entries : List CacheEntry). Contains entries entry ⊎ (entry ≡ step_entry c.args.step)) c.self.view_is (c.replace.ensures entry there)
