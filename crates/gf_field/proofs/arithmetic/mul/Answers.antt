use Rattle.std.proofs.Common.{◌≡◌, ℕ, ap, sym, ◌∙◌, arith}
use Rattle.gf_field.specs.Field.{mul_of}
use Rattle.gf_field.proofs.Field.{mul_of-one_left}
use Rattle.gf_field.proofs.Powers.{power-zero}
use Rattle.gf_field.proofs.Steps.{terms_of, term_there, term_absent, next_term, all_terms}
use Rattle.gf_field.proofs.arithmetic.mul.Goals as goal
use Rattle.gf_field.proofs.arithmetic.mul.Goals.{then-b-i-eq1, else-b-i-eq1}
use Rattle.std.proofs.Common.{refl}

pub loop-i-init : goal.loop-i-init
loop-i-init c = record {
  summed = refl;
  shifted = sym (ap (λ (x : ℕ). mul_of x c.args.a) (power-zero 2) ∙ mul_of-one_left c.args.a c.ranges.a.fits);
}

pub loop-i-preserved : goal.loop-i-preserved
loop-i-preserved c = record {
  summed = elim c.if-b-i-eq1.branch [
    | then-b-i-eq1 w ↦ w.product-is ∙ term_there c.args.a c.args.b c.loop-i.i c.loop-i.product c.loop-i.term c.loop-i.invariant.summed c.loop-i.invariant.shifted w.if-b-i-eq1.true
    | else-b-i-eq1 w ↦ w.product-is ∙ term_absent c.args.a c.args.b c.loop-i.i c.loop-i.product c.loop-i.invariant.summed w.if-b-i-eq1.false
  ];
  shifted = c.double-term.ensures ∙ next_term c.args.a c.loop-i.i c.loop-i.term c.loop-i.invariant.shifted;
}

pub returns : goal.returns
returns c =
    let last : c.loop-i.i ≡ 8 = omega arith in
    c.loop-i.invariant.summed ∙ ap (terms_of c.args.a c.args.b) last ∙ all_terms c.args.a c.args.b
