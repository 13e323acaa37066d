use Rattle.std.proofs.Common.{◌∙◌}
use Rattle.s3_sign.specs.Instants.{day_text}
use Rattle.s3_sign.specs.StringToSign.{signing_scope}
use Rattle.s3_sign.proofs.TextLemmas.{scope_text}
use Rattle.s3_sign.proofs.signing.signing_scope.Goals as goal

pub returns : goal.returns
unfolding signing_scope
returns c =
    scope_text (day_text c.args.time.now) c.args.region.now _ _ _ _ (c.in_ok-text.ensures.items ∙ c.day_text.ensures)
    c.in_ok-extend_from_slice.ensures.items c.in_ok-extend_from_slice-2.ensures.items c.in_ok-extend_from_slice-3.ensures.items
