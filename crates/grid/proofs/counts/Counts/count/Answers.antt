use Rattle.std.proofs.Common.{Some, None, ap, sym, ◌∙◌}
use Rattle.std.specs.Option.{option_copied}
use Rattle.grid.proofs.StampLemmas.{found_count}
use Rattle.grid.proofs.counts.Counts.count.Goals as goal

pub returns-in-Some-clause-count : goal.returns-in-Some-clause-count
returns-in-Some-clause-count c = found_count _ c.args.index.now _ (Some c.in-Some.count.now) c.self.view_is (ap option_copied (sym c.in-Some.is) ∙ c.get.ensures.value)

pub returns-in-None-clause-count : goal.returns-in-None-clause-count
returns-in-None-clause-count c = found_count _ c.args.index.now _ None c.self.view_is (ap option_copied (sym c.in-None.is) ∙ c.get.ensures.value)
