use Rattle.std.proofs.Common.{◌++◌, ap, ◌∙◌}
use Rattle.s3_sign.proofs.TextLemmas.{key_of_day}
use Rattle.s3_sign.proofs.signing.signing_key.Goals as goal

pub returns : goal.returns
returns c =
    key_of_day c.args.secret.now c.args.day.now c.args.region.now _ _ _ _ _ _
    (c.in_ok-extend_from_slice.ensures.items ∙ ap (λ x. x ++ c.args.secret.now) c.in_ok-first.ensures.items)
    c.as_slice.ensures.value c.hmac-of_day.ensures c.hmac-of_region.ensures c.hmac-of_service.ensures c.hmac.ensures
