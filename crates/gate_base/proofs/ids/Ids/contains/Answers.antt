use Rattle.std.proofs.Common.{sym, ap, ◌∙◌}
use Rattle.std.specs.FinSet as set
use Rattle.gate_base.proofs.Turns.{contains_id}
use Rattle.gate_base.proofs.ids.Ids.contains.Goals as goal

pub returns : goal.returns
returns c = c.is_among.ensures ∙ sym (contains_id _ c.args.id c.ranges.id.fits) ∙ ap (λ s. set.contains s c.args.id) c.self.view_is
