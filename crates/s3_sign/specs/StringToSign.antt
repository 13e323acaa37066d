-- The string to sign (Amazon S3, as in CanonicalRequest; task 2).
use Rattle.std.specs.Prelude.{ℕ, List, [], ◌∷◌, codes}
use Rattle.std.specs.List.{join_with_byte}
use Rattle.hex.specs.Hex.{encode_lower}
use Rattle.sha2.specs.Sha256.{sha256}
use Rattle.s3_sign.specs.declared.request.ObjectRequest.{ObjectRequest}
use Rattle.s3_sign.specs.declared.utc_time.UtcTime.{UtcTime}
use Rattle.s3_sign.specs.Instants.{day_text, time_text}
use Rattle.s3_sign.specs.CanonicalRequest.{canonical_request}

-- what a signature is good for: a day, a region, S3, with "/" between each and the next
unfoldable pub signing_scope : List ℕ → UtcTime → List ℕ
signing_scope region time = join_with_byte 47 (day_text time ∷ region ∷ codes "s3" ∷ codes "aws4_request" ∷ [])

-- algorithm, time, scope, and the canonical request's hash in hexadecimal, with a line feed between each and the next
unfoldable pub string_to_sign : List ℕ → ObjectRequest → UtcTime → List ℕ
string_to_sign region request time =
    join_with_byte 10 (codes "AWS4-HMAC-SHA256" ∷ time_text time ∷ signing_scope region time
    ∷ encode_lower (sha256 (canonical_request request time)) ∷ [])
