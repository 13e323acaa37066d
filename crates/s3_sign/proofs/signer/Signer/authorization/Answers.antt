use Rattle.std.proofs.Common.{◌≡◌, rules}
use Rattle.s3_sign.specs.CanonicalRequest.{signed_fields, signed_names}
use Rattle.s3_sign.specs.StringToSign.{signing_scope}
use Rattle.s3_sign.specs.SignedHead.{authorization, signature}
use Rattle.s3_sign.proofs.TextLemmas.{field_text}
use Rattle.s3_sign.proofs.signer.Signer.authorization.Goals as goal

pub returns-clause-value : goal.returns-clause-value
unfolding authorization
returns-clause-value c =
    let r = c.args.request.now in
    let time = c.args.time.now in
    let account = c.args.self.now in
    let id : c.as_slice-2.result.now ≡ account.id = search rules in
    let scope : c.as_slice-3.result.now ≡ signing_scope account.region time = search rules in
    let digits : c.as_bytes.result.now ≡ signature account r time = search rules in
    field_text account.id (signing_scope account.region time) (signed_names (signed_fields r time)) (signature account r time)
    c.as_slice-2.result.now c.as_slice-3.result.now c.signed_names.result.now c.as_bytes.result.now _ _ _ _ _ _ _ _
    id scope (c.signed_names.ensures time) digits
    c.in_ok-value.ensures.items c.in_ok-extend_from_slice.ensures.items c.in_ok-extend_from_slice-2.ensures.items
    c.in_ok-extend_from_slice-3.ensures.items c.in_ok-extend_from_slice-4.ensures.items c.in_ok-extend_from_slice-5.ensures.items
    c.in_ok-extend_from_slice-6.ensures.items c.in_ok-extend_from_slice-7.ensures.items
