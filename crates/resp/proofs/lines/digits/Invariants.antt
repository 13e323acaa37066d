use Rattle.std.proofs.Common.{◌≡◌, ◌≤◌, drop}
use Rattle.resp.specs.Reading.{span, digit_step}
use Rattle.resp.proofs.lines.digits.Given as goal

abbrev pub invariant-loop-at : goal.invariant-loop-at
invariant-loop-at l = record {
  so_far : span (digit_step l.limits l.most) (l.value, l.count) (drop l.at l.bytes) ≡ span (digit_step l.limits l.most) (l.fn.value, l.fn.count) l.bytes;
  fits : l.value ≤ l.most;
}
