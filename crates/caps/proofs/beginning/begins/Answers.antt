use Rattle.caps.specs.Beginnings.{begins_with}
use Rattle.caps.proofs.beginning.begins.Goals as goal

pub returns : goal.returns
unfolding begins_with
returns c = c.starts_with.ensures.value
