-- The heads of requests (Amazon S3: GetObject, HeadObject, DeleteObject, PutObject; its path style).
use Rattle.std.specs.Prelude.{ℕ, Bool, true, false, List, ◌++◌, codes, Option, Some, None}
use Rattle.s3_sign.specs.declared.request.Method.{Method}
use Rattle.s3_sign.specs.declared.request.Method.TheVariants as methods
use Rattle.s3_sign.specs.declared.request.ObjectRequest.{ObjectRequest}
use Rattle.s3_sign.specs.declared.utc_time.UtcTime.{UtcTime}
use Rattle.s3_sign.specs.SignedHead.{Account, signed_head}
use Rattle.s3_requests.specs.declared.asks.ObjectAsk.{ObjectAsk}
use Rattle.s3_requests.specs.declared.asks.ObjectAsk.TheVariants as asks
use Rattle.s3_requests.specs.declared.sites.ObjectSite.{ObjectSite}

abbrev pub ask_method : ObjectAsk → Method
ask_method asks.Get = methods.Get
ask_method asks.Head = methods.Head
ask_method asks.Delete = methods.Delete
ask_method (asks.PutOnce bytes) = methods.Put
ask_method (asks.PutOver bytes) = methods.Put

-- how long the body is, where there is one
abbrev pub ask_length : ObjectAsk → Option ℕ
ask_length (asks.PutOnce bytes) = Some bytes
ask_length (asks.PutOver bytes) = Some bytes
ask_length _ = None

-- whether it has the condition that nothing stands there
abbrev pub is_conditional : ObjectAsk → Bool
is_conditional (asks.PutOnce bytes) = true
is_conditional _ = false

-- `/`, the bucket, `/` and the name
abbrev pub object_path : ObjectSite → List ℕ → List ℕ
object_path site name = codes "/" ++ site.bucket ++ codes "/" ++ name

-- What is asked of the object of a name. The addresses at which its host and path stand are no part of what is told.
abbrev pub object_request : ObjectSite → List ℕ → ObjectAsk → ObjectRequest
object_request site name asked = record {
  method = ask_method asked;
  host = record { ref_ptr = (0, 0); now = site.host };
  path = record { ref_ptr = (0, 0); now = object_path site name };
  content_length = ask_length asked;
  once = is_conditional asked;
}

-- its head, signed by who has an account, at a second
unfoldable pub request_head : Account → ObjectSite → List ℕ → ObjectAsk → UtcTime → List ℕ
request_head account site name asked time = signed_head account (object_request site name asked) time
