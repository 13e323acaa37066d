-- A request that is given by what its host and path are, wherever these stand.
use Rattle.std.proofs.Common.{◌≡◌, ℕ, List, refl}
use Rattle.s3_sign.specs.declared.request.ObjectRequest.{ObjectRequest}
use Rattle.s3_sign.specs.declared.utc_time.UtcTime.{UtcTime}
use Rattle.s3_sign.specs.CanonicalRequest.{canonical_request}
use Rattle.s3_sign.specs.StringToSign.{string_to_sign}
use Rattle.s3_sign.specs.SignedHead.{Account, authorization, signed_head, signature}
use Rattle.s3_requests.specs.declared.asks.ObjectAsk.{ObjectAsk}
use Rattle.s3_requests.specs.declared.sites.ObjectSite.{ObjectSite}
use Rattle.s3_requests.specs.RequestHeads.{ask_length, ask_method, is_conditional, object_path, request_head}

pub one_head : (account : Account) (site : ObjectSite) (name : List ℕ) (asked : ObjectAsk) (time : UtcTime) (request : ObjectRequest)
    → request.method ≡ ask_method asked → request.host.now ≡ site.host → request.path.now ≡ object_path site name
    → request.content_length ≡ ask_length asked → request.once ≡ is_conditional asked
    → signed_head account request time ≡ request_head account site name asked time
unfolding request_head signed_head authorization signature string_to_sign canonical_request
one_head account site name asked time request m h p l o = rw (m, h, p, l, o) refl
