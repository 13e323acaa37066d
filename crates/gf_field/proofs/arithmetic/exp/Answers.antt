use Rattle.std.proofs.Common.{◌≡◌, ap, sym, ◌∙◌, arith}
use Rattle.gf_field.specs.Field.{mul_of, power_of}
use Rattle.gf_field.proofs.Powers.{power-zero}
use Rattle.gf_field.proofs.Steps.{power_step}
use Rattle.gf_field.proofs.arithmetic.exp.Goals as goal

pub loop-i-init : goal.loop-i-init
loop-i-init c = sym (power-zero 2)

pub loop-i-preserved : goal.loop-i-preserved
loop-i-preserved c = c.double-power.ensures ∙ ap (mul_of 2) c.loop-i.invariant ∙ power_step c.loop-i._i

pub returns : goal.returns
returns c =
    let last : c.loop-i._i ≡ c.args.e = omega arith in
    c.loop-i.invariant ∙ ap (power_of 2) last
