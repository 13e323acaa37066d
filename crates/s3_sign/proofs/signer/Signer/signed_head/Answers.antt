use Rattle.std.proofs.Common.{◌∙◌}
use Rattle.s3_sign.specs.CanonicalRequest.{object_method, signed_fields}
use Rattle.s3_sign.specs.SignedHead.{authorization, signed_head}
use Rattle.s3_sign.proofs.TextLemmas.{head_text}
use Rattle.s3_sign.proofs.signer.Signer.signed_head.Goals as goal

pub returns-clause-head : goal.returns-clause-head
unfolding signed_head
returns-clause-head c =
    let r = c.args.request.now in
    let time = c.args.time.now in
    head_text (object_method r.method) r.path.now (authorization c.args.self.now r time) _ _ (signed_fields r time) _ _ _ _ _ _ _
    c.name.ensures (c.as_slice.ensures.value ∙ c.in_ok-authorization.ensures.value)
    c.in_ok-head.ensures.items c.in_ok-extend_from_slice.ensures.items c.in_ok-extend_from_slice-2.ensures.items
    c.in_ok-extend_from_slice-3.ensures.items c.in_ok-put_fields.ensures c.in_ok-put_field.ensures
    c.in_ok-extend_from_slice-4.ensures.items
