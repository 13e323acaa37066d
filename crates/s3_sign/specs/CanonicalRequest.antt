-- The canonical request (Amazon S3, "Authenticating Requests: Using the Authorization Header (AWS Signature Version 4)",
-- task 1), of a request in path style that has no query and whose body isn't signed.
use Rattle.std.specs.Prelude.{ℕ, Bool, true, false, List, [], ◌∷◌, ◌++◌, map, codes, decimal, Option, Some, None}
use Rattle.std.specs.List.{flat_map, join_with_byte}
use Rattle.s3_sign.specs.declared.request.Method.{Method}
use Rattle.s3_sign.specs.declared.request.Method.TheVariants as methods
use Rattle.s3_sign.specs.declared.request.ObjectRequest.{ObjectRequest}
use Rattle.s3_sign.specs.declared.utc_time.UtcTime.{UtcTime}
use Rattle.s3_sign.specs.Instants.{time_text}

abbrev pub object_method : Method → List ℕ
object_method methods.Get = codes "GET"
object_method methods.Head = codes "HEAD"
object_method methods.Put = codes "PUT"
object_method methods.Delete = codes "DELETE"

-- a field that is signed: its name in lower case, and its value
pub record SignedField : Type 0 where
  pub name : List ℕ
  pub value : List ℕ

abbrev pub signed_field : List ℕ → List ℕ → SignedField
signed_field name value = record { name = name; value = value }

-- how long the body is, where there is one
abbrev pub length_fields : Option ℕ → List SignedField
length_fields None = []
length_fields (Some n) = signed_field (codes "content-length") (decimal n) ∷ []

-- "only where nothing stands" (RFC 9110, section 13.1.2)
abbrev pub condition_fields : Bool → List SignedField
condition_fields false = []
condition_fields true = signed_field (codes "if-none-match") (codes "*") ∷ []

-- in place of the hash of a body that isn't signed
abbrev pub unsigned_payload : List ℕ
unsigned_payload = codes "UNSIGNED-PAYLOAD"

-- the fields that are signed, in the order of their names
abbrev pub signed_fields : ObjectRequest → UtcTime → List SignedField
signed_fields request time =
    length_fields request.content_length
    ++ (signed_field (codes "host") request.host.now ∷ [])
    ++ condition_fields request.once
    ++ (signed_field (codes "x-amz-content-sha256") unsigned_payload
    ∷ signed_field (codes "x-amz-date") (time_text time) ∷ [])

-- each field as its name, what stands between, its value and what ends it
abbrev pub signed_lines : List ℕ → List ℕ → List SignedField → List ℕ
signed_lines between end fields = flat_map (λ field. field.name ++ between ++ field.value ++ end) fields

-- CanonicalHeaders: a line each, name ":" value
abbrev pub canonical_fields : List SignedField → List ℕ
canonical_fields fields = signed_lines (codes ":") (codes "\n") fields

-- SignedHeaders: their names, with ";" between them
abbrev pub signed_names : List SignedField → List ℕ
signed_names fields = join_with_byte 59 (map (λ field. field.name) fields)

-- method, path, query, fields, names and payload, with a line feed between each and the next; the query is empty
unfoldable pub canonical_request : ObjectRequest → UtcTime → List ℕ
canonical_request request time =
    let fields = signed_fields request time in
    join_with_byte 10 (object_method request.method ∷ request.path.now ∷ []
    ∷ canonical_fields fields ∷ signed_names fields ∷ unsigned_payload ∷ [])
