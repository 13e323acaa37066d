use Rattle.std.proofs.Common.{◌≡◌, take, drop}
use Rattle.resp.specs.Reading.{span, text_step, text_at}
use Rattle.resp.proofs.lines.text_len.Given as goal

abbrev pub invariant-loop-at : goal.invariant-loop-at
invariant-loop-at l = span (text_step l.limits) (take l.at l.bytes) (drop l.at l.bytes) ≡ text_at l.limits l.bytes
