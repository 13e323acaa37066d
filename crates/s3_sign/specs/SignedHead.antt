-- The signature, and the head of the request that it goes with (Amazon S3, as in CanonicalRequest; RFC 9112, sections 3
-- and 5).
use Rattle.std.specs.Prelude.{ℕ, List, [], ◌∷◌, ◌++◌, codes}
use Rattle.hex.specs.Hex.{encode_lower}
use Rattle.hmac_sha256.specs.Hmac.{hmac_sha256}
use Rattle.s3_sign.specs.declared.request.ObjectRequest.{ObjectRequest}
use Rattle.s3_sign.specs.declared.utc_time.UtcTime.{UtcTime}
use Rattle.s3_sign.specs.Instants.{day_text}
use Rattle.s3_sign.specs.CanonicalRequest.{SignedField, signed_field, signed_fields, signed_names, signed_lines, object_method}
use Rattle.s3_sign.specs.StringToSign.{signing_scope, string_to_sign}
use Rattle.s3_sign.specs.SigningKey.{signing_key}

-- who signs: the id and the secret of a key, and the region of the buckets
pub record Account : Type 0 where
  pub id : List ℕ
  pub secret : List ℕ
  pub region : List ℕ

-- in hexadecimal: the string to sign, under the day's key
unfoldable pub signature : Account → ObjectRequest → UtcTime → List ℕ
signature account request time =
    encode_lower (hmac_sha256 (signing_key account.secret (day_text time) account.region)
    (string_to_sign account.region request time))

-- the value of the field Authorization
unfoldable pub authorization : Account → ObjectRequest → UtcTime → List ℕ
authorization account request time =
    codes "AWS4-HMAC-SHA256 Credential=" ++ account.id ++ codes "/" ++ signing_scope account.region time
    ++ codes ", SignedHeaders=" ++ signed_names (signed_fields request time)
    ++ codes ", Signature=" ++ signature account request time

-- a line each, name ": " value
abbrev pub head_fields : List SignedField → List ℕ
head_fields fields = signed_lines (codes ": ") (codes "\r\n") fields

-- the request line, the signed fields, the signature, an empty line
unfoldable pub signed_head : Account → ObjectRequest → UtcTime → List ℕ
signed_head account request time =
    object_method request.method ++ codes " " ++ request.path.now ++ codes " HTTP/1.1\r\n"
    ++ head_fields (signed_fields request time
    ++ signed_field (codes "authorization") (authorization account request time) ∷ [])
    ++ codes "\r\n"
