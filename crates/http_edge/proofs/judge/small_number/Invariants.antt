use Rattle.std.proofs.Common.{◌≡◌, ◌≤◌, take}
use Rattle.std.specs.Str.Parse.{digits_value}
use Rattle.http_edge.specs.Judge.{most_body_bytes}
use Rattle.http_edge.proofs.judge.small_number.Given as goal

abbrev pub invariant-loop-b : goal.invariant-loop-b
invariant-loop-b l = (l.number ≡ digits_value 10 (take l.b-index l.digits)) × (l.number ≤ most_body_bytes)
