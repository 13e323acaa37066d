use Rattle.std.proofs.Common.{◌≡◌, ℕ, refl, ap, ◌∙◌, arith, length, slice_index}
use Rattle.std.specs.Int.Bits.{bit_xor}
use Rattle.gf_field.specs.Field.{mul_of}
use Rattle.erasure.specs.Blocks.{distance_of}
use Rattle.erasure.proofs.Places.{distance_below, distance_other, distance_same}
use Rattle.erasure.proofs.interpolation.distance.Goals as goal
use Rattle.erasure.proofs.interpolation.distance.Goals.{then-m-j, else-m-j}

pub loop-m-init : goal.loop-m-init
loop-m-init c = refl

pub loop-m-preserved : goal.loop-m-preserved
loop-m-preserved c = elim c.if-m-j.branch [
  | then-m-j w ↦
      w.product-is ∙ w.mul-product.ensures
      ∙ ap (λ (p : ℕ). mul_of p (bit_xor c.args.x (slice_index c.args.places.now c.loop-m.m))) c.loop-m.invariant
      ∙ distance_other c.loop-m.m c.args.places.now c.args.j c.args.x w.if-m-j.true
  | else-m-j w ↦ w.product-is ∙ c.loop-m.invariant ∙ distance_same c.loop-m.m c.args.places.now c.args.j c.args.x w.if-m-j.false
]

pub returns : goal.returns
unfolding distance_of
returns c =
    let last : c.loop-m.m ≡ length c.args.places.now = omega arith in
    c.loop-m.invariant ∙ ap (λ (n : ℕ). distance_below n c.args.places.now c.args.j c.args.x) last
