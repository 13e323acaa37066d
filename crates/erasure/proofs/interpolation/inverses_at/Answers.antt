use Rattle.std.proofs.Common.{◌≢◌, ◌<◌, length, ap, ◌∙◌, arith, get_or-set_other, get_or-set_same, below_more}
use Rattle.std.proofs.lemmas.List.{length-set}
use Rattle.gf_field.specs.Field.{inverse_of}
use Rattle.erasure.proofs.Places.{inverse_or}
use Rattle.erasure.proofs.interpolation.inverses_at.Goals as goal

pub loop-j-preserved : goal.loop-j-preserved
loop-j-preserved c = record {
  long = length-set c.loop-j.inverses c.loop-j.j c.unwrap_or.result ∙ c.loop-j.invariant.long;
  made = below_more _ _
      (λ j h.
      let ne : j ≢ c.loop-j.j = omega arith in
      get_or-set_other c.loop-j.inverses c.loop-j.j j c.unwrap_or.result 0 ne ∙ c.loop-j.invariant.made j h)
      (let lt : c.loop-j.j < length c.loop-j.inverses = omega (arith, c.loop-j-test.true, c.requires, c.loop-j.invariant.long) in
      get_or-set_same c.loop-j.inverses c.loop-j.j c.unwrap_or.result 0 lt
      ∙ c.unwrap_or.ensures
      ∙ inverse_or c.inv.result c.distance.result c.inv.ensures.none c.inv.ensures.value
      ∙ ap inverse_of c.distance.ensures);
}
