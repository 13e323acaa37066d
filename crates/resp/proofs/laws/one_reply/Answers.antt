use Rattle.std.proofs.Common.{◌≡◌, length, sym, ap, ◌∙◌, arith, length-append}
use Rattle.resp.specs.Reading.{reply_at}
use Rattle.resp.proofs.Steps.{given, value_is, rest_is}
use Rattle.resp.proofs.WholeReplies.{reads-reply}
use Rattle.resp.proofs.laws.one_reply.Goals as goal

pub returns : goal.returns
returns c = λ limits one two front back other rest room here there e.
    let R = reads-reply limits room in
    let same : given one back ≡ given two rest =
    sym (R.again one front back here) ∙ ap (λ b. reply_at limits b) e ∙ R.again two other rest there in
    let rests : back ≡ rest = rest_is one two back rest same in (
      value_is one two back rest same,
      omega (arith, ap length rests, ap length e, length-append front back, length-append other rest),
    )
