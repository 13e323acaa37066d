-- The key of a day (Amazon S3, as in CanonicalRequest; task 3).
use Rattle.std.specs.Prelude.{ℕ, List, ◌++◌, codes}
use Rattle.hmac_sha256.specs.Hmac.{hmac_sha256}

-- of a secret, a day as YYYYMMDD and a region, for S3
unfoldable pub signing_key : List ℕ → List ℕ → List ℕ → List ℕ
signing_key secret day region =
    let of_day = hmac_sha256 (codes "AWS4" ++ secret) day in
    let of_region = hmac_sha256 of_day region in
    let of_service = hmac_sha256 of_region (codes "s3") in
    hmac_sha256 of_service (codes "aws4_request")
