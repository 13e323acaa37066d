use Rattle.std.proofs.Common.{◌≡◌, ◌≢◌, [], ◌++◌, length, Some}
use Rattle.std.specs.Prelude.{unwrap_or}
use Rattle.gate_base.proofs.output.flush_body.Given as goal

-- the same bytes wait, and no body of which none is left
abbrev pub invariant-segments : goal.invariant-segments
invariant-segments l = (l.front ++ (l.ready ++ unwrap_or l.body []) ≡ l.fn.front ++ (l.fn.ready ++ unwrap_or l.fn.body [])) × (l.body ≢ Some [])

abbrev pub decreases-segments : goal.decreases-segments
decreases-segments l = length (unwrap_or l.body [])
