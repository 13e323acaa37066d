use Rattle.std.proofs.Common.{sym, ap}
use Rattle.std.specs.Fmt.{digits}
use Rattle.gate_limits.specs.Foreign.{refusal_head}
use Rattle.gate_limits.proofs.foreign.refusal_head.Goals as goal

pub returns-in-Page : goal.returns-in-Page
unfolding digits
returns-in-Page c = sym (ap refusal_head c.in-Page.is)

pub returns-in-Host : goal.returns-in-Host
unfolding digits
returns-in-Host c = sym (ap refusal_head c.in-Host.is)
