use Rattle.std.proofs.Common.{ap, ◌∙◌}
use Rattle.hex.specs.Hex.{encode_lower}
use Rattle.sha2.specs.Sha256.{sha256}
use Rattle.s3_sign.specs.Instants.{time_text}
use Rattle.s3_sign.specs.CanonicalRequest.{canonical_request}
use Rattle.s3_sign.specs.StringToSign.{signing_scope, string_to_sign}
use Rattle.s3_sign.proofs.TextLemmas.{string_text}
use Rattle.s3_sign.proofs.signing.string_to_sign.Goals as goal

pub returns : goal.returns
unfolding string_to_sign
returns c =
    let time = c.args.time.now in
    string_text (time_text time) (signing_scope c.args.region.now time) (encode_lower (sha256 (canonical_request c.args.request.now time))) _ _ _ _ _ _ _ _ _
    c.text.ensures (c.as_slice-2.ensures.value ∙ c.in_ok-scope.ensures)
    (c.as_bytes.ensures.value ∙ c.in_ok-digest.ensures ∙ ap (λ x. encode_lower (sha256 x)) (c.as_slice.ensures.value ∙ c.in_ok-canonical.ensures))
    c.in_ok-text.ensures.items c.in_ok-extend_from_slice.ensures.items c.in_ok-extend_from_slice-2.ensures.items
    c.in_ok-extend_from_slice-3.ensures.items c.in_ok-extend_from_slice-4.ensures.items c.in_ok-extend_from_slice-5.ensures.items
