use Rattle.std.proofs.Common.{◌≡◌}
use Rattle.gf_field.specs.Field.{mul_of, power_of}
use Rattle.gf_field.proofs.Steps.{terms_of}
use Rattle.gf_field.proofs.arithmetic.mul.Given as goal

abbrev pub invariant-loop-i : goal.invariant-loop-i
invariant-loop-i l = record { summed : l.product ≡ terms_of l.a l.b l.i; shifted : l.term ≡ mul_of (power_of 2 l.i) l.a }
