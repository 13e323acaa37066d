use Rattle.std.proofs.Common.{◌≡◌, ◌^◌}
use Rattle.gf_field.specs.Field.{power_of}
use Rattle.gf_field.proofs.Steps.{squares_to}
use Rattle.gf_field.proofs.arithmetic.inv.Given as goal

abbrev pub invariant-loop-i : goal.invariant-loop-i
invariant-loop-i l = record { squared : l.square ≡ power_of l.a (2 ^ l._i); multiplied : l.product ≡ power_of l.a (squares_to l._i) }
