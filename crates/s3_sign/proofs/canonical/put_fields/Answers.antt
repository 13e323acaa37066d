use Rattle.std.proofs.Common.{codes}
use Rattle.s3_sign.specs.Instants.{time_text}
use Rattle.s3_sign.specs.CanonicalRequest.{signed_field, length_fields, condition_fields, unsigned_payload}
use Rattle.s3_sign.proofs.TextLemmas.{all_fields}
use Rattle.s3_sign.proofs.canonical.put_fields.Goals as goal

pub returns : goal.returns
returns c =
    let r = c.args.request.now in
    let time = rw c.text.ensures at c.in_ok-put_field-3.ensures in
    all_fields c.args.between.now c.args.end.now (length_fields r.content_length) (condition_fields r.once)
    (signed_field (codes "host") r.host.now) (signed_field (codes "x-amz-content-sha256") unsigned_payload)
    (signed_field (codes "x-amz-date") (time_text c.args.time.now))
    c.args.out.now.items _ _ _ _ _
    c.in_ok-put_length.ensures c.in_ok-put_field.ensures c.in_ok-put_condition.ensures c.in_ok-put_field-2.ensures time
