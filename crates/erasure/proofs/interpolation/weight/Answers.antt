use Rattle.std.proofs.Common.{ℕ, slice_index, ap, ◌∙◌}
use Rattle.gf_field.specs.Field.{mul_of}
use Rattle.erasure.specs.Blocks.{distance_of, weight_of}
use Rattle.erasure.proofs.interpolation.weight.Goals as goal

pub returns : goal.returns
unfolding weight_of
returns c =
    c.mul.ensures
    ∙ ap (λ (d : ℕ). mul_of d (slice_index c.args.inverses.now c.args.j)) c.distance_from_whole.ensures
    ∙ ap (mul_of (distance_of c.args.places.now c.args.j c.args.x)) (c.requires.inverses c.args.j c.requires.within)
