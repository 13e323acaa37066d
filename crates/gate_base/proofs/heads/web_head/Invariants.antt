use Rattle.std.proofs.Common.{◌≡◌, map}
use Rattle.gate_base.specs.Requests.{web_field}
use Rattle.gate_base.proofs.heads.web_head.Given as goal

-- the fields that were yielded were moved
abbrev pub invariant-loop-field : goal.invariant-loop-field
invariant-loop-field l = l.fields.items ≡ map web_field l.yielded
