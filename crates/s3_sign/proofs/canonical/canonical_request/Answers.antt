use Rattle.s3_sign.specs.CanonicalRequest.{canonical_request, canonical_fields, object_method, signed_fields, signed_names}
use Rattle.s3_sign.proofs.TextLemmas.{request_text}
use Rattle.s3_sign.proofs.canonical.canonical_request.Goals as goal

pub returns : goal.returns
unfolding canonical_request
returns c =
    let r = c.args.request.now in
    let time = c.args.time.now in
    request_text (object_method r.method) r.path.now (canonical_fields (signed_fields r time)) (signed_names (signed_fields r time)) _ _ _ _ _ _ _ _ _ _
    c.name.ensures (c.signed_names.ensures time)
    c.in_ok-text.ensures.items c.in_ok-extend_from_slice.ensures.items c.in_ok-extend_from_slice-2.ensures.items
    c.in_ok-extend_from_slice-3.ensures.items c.in_ok-put_fields.ensures c.in_ok-extend_from_slice-4.ensures.items
    c.in_ok-extend_from_slice-5.ensures.items c.in_ok-extend_from_slice-6.ensures.items
