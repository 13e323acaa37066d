use Rattle.std.proofs.Common.{ℕ, ap, ◌∙◌}
use Rattle.gf_field.specs.Field.{mul_of}
use Rattle.erasure.proofs.Places.{distance_by_inverse}
use Rattle.erasure.proofs.interpolation.distance_from_whole.Goals as goal

pub returns-in-Some : goal.returns-in-Some
returns-in-Some c =
    c.mul.ensures
    ∙ ap (λ (p : ℕ). mul_of p c.in-Some.inverse) c.requires.whole
    ∙ distance_by_inverse c.args.places.now c.args.j c.args.x c.in-Some.inverse c.requires.within c.in-Some.ensures.product
