use Rattle.std.proofs.Common.{◌≡◌, map}
use Rattle.gf_field.specs.Field.{mul_of, power_of}
use Rattle.gf_field.proofs.Steps.{terms_of}
use Rattle.gf_field.proofs.lanes.mul_lanes.Given as goal

abbrev pub invariant-loop-i : goal.invariant-loop-i
invariant-loop-i l = record {
  summed : l.products ≡ map (λ x. terms_of x l.c l.i) l.fn.src;
  doubled : l.terms ≡ map (λ x. mul_of (power_of 2 l.i) x) l.fn.src;
}
