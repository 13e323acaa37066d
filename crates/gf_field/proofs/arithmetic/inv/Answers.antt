use Rattle.std.proofs.Common.{◌≡◌, ℕ, ◌<◌, ap, sym, ◌∙◌, arith}
use Rattle.gf_field.specs.Field.{mul_of, power_of, inverse_of}
use Rattle.gf_field.proofs.Field.{mul_of-one_right}
use Rattle.gf_field.proofs.Powers.{power-zero, power-suc, mul_of-inverse}
use Rattle.gf_field.proofs.Steps.{squares_to, square_step, product_step, inverse_made}
use Rattle.gf_field.proofs.arithmetic.inv.Goals as goal

made : (c : goal.After-loop-i) → c.loop-i.product ≡ inverse_of c.args.a
made c =
    let last : c.loop-i._i ≡ 7 = omega arith in
    inverse_made c.args.a c.loop-i.product (c.loop-i.invariant.multiplied ∙ ap (λ (x : ℕ). power_of c.args.a (squares_to x)) last)

pub loop-i-init : goal.loop-i-init
loop-i-init c = record {
  squared = sym (power-suc c.args.a 0 ∙ ap (mul_of c.args.a) (power-zero c.args.a) ∙ mul_of-one_right c.args.a c.ranges.a.fits);
  multiplied = sym (power-zero c.args.a);
}

pub loop-i-preserved : goal.loop-i-preserved
loop-i-preserved c =
    let squared = c.mul-square.ensures ∙ square_step c.args.a c.loop-i._i c.loop-i.square c.loop-i.invariant.squared in
    record {
      squared = squared;
      multiplied = c.mul-product.ensures
          ∙ product_step c.args.a c.loop-i._i c.mul-square.result c.loop-i.product squared c.loop-i.invariant.multiplied;
    }

pub returns-clause-product : goal.returns-clause-product
returns-clause-product c =
    let pos : 0 < c.args.a = omega (arith, c.if-a-eq0.false) in
    ap (mul_of c.args.a) (made c) ∙ mul_of-inverse c.args.a pos c.ranges.a.fits

pub returns-clause-value : goal.returns-clause-value
returns-clause-value c = made c
