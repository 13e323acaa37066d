use Rattle.std.proofs.Common.{◌≡◌}
use Rattle.gf_field.specs.Field.{power_of}
use Rattle.gf_field.proofs.arithmetic.exp.Given as goal

abbrev pub invariant-loop-i : goal.invariant-loop-i
invariant-loop-i l = l.power ≡ power_of 2 l._i
