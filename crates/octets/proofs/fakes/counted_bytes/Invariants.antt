use Rattle.std.proofs.Common.{◌≡◌}
use Rattle.octets.specs.Counted.{counted}
use Rattle.octets.proofs.fakes.counted_bytes.Given as goal

abbrev pub invariant-loop-i : goal.invariant-loop-i
invariant-loop-i l = l.bytes.items ≡ counted l.i
