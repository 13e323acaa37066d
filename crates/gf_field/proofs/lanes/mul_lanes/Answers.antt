use Rattle.std.proofs.Common.{◌≡◌, ℕ, map, ap, ◌∙◌, sym, arith, add-one}
use Rattle.std.proofs.lemmas.Simd.{splat_is_map}
use Rattle.gf_field.proofs.Steps.{terms_of}
use Rattle.gf_field.proofs.LaneSteps.{first_terms, more_terms, next_terms, whole_products}
use Rattle.gf_field.proofs.lanes.mul_lanes.Goals as goal

pub loop-i-init : goal.loop-i-init
loop-i-init c = record {
  summed = splat_is_map c.args.src 32 0 c.fits-src.0;
  doubled = first_terms c.args.src c.fits-src.1;
}

pub loop-i-preserved : goal.loop-i-preserved
loop-i-preserved c = record {
  summed = more_terms c.args.src c.loop-i.products c.loop-i.terms c.args.c c.loop-i.i c.fits-src.0 c.loop-i.invariant.summed c.loop-i.invariant.doubled
      ∙ ap (λ (n : ℕ). map (λ x. terms_of x c.args.c n) c.args.src) (sym (add-one c.loop-i.i));
  doubled = c.double_lanes-terms.ensures ∙ next_terms c.args.src c.loop-i.terms c.loop-i.i c.loop-i.invariant.doubled;
}

pub returns : goal.returns
returns c =
    let last : c.loop-i.i ≡ 8 = omega arith in
    c.loop-i.invariant.summed ∙ ap (λ (n : ℕ). map (λ x. terms_of x c.args.c n) c.args.src) last ∙ whole_products c.args.src c.args.c
