-- What is wrong with a reply that answers nothing (Amazon S3, "Error responses"; RFC 9110, section 15).
use Rattle.std.specs.Prelude.{◌≡◌, ◌≢◌, ◌⊎◌, ◌≤◌, ◌<◌, ℕ, Bool, true, false, List, codes, Some}
use Rattle.s3_requests.specs.declared.asks.ObjectAsk.{ObjectAsk}
use Rattle.s3_requests.specs.declared.replies.KnownCode.{KnownCode}
use Rattle.s3_requests.specs.declared.replies.KnownCode.TheVariants as known
use Rattle.s3_requests.specs.declared.replies.ObjectReply.{ObjectReply}
use Rattle.s3_requests.specs.declared.fault.ObjectFault.{ObjectFault}
use Rattle.s3_requests.specs.declared.fault.ObjectFault.TheVariants as faults
use Rattle.s3_requests.specs.RequestHeads.{ask_method, is_conditional}
use Rattle.s3_sign.specs.declared.request.Method.TheVariants as methods

-- a code as it is spelled
abbrev pub code_word : KnownCode → List ℕ
code_word known.QuotaExceeded = codes "QuotaExceeded"
code_word known.SignatureDoesNotMatch = codes "SignatureDoesNotMatch"
code_word known.InvalidAccessKeyId = codes "InvalidAccessKeyId"
code_word known.UserSuspended = codes "UserSuspended"
code_word known.AuthorizationHeaderMalformed = codes "AuthorizationHeaderMalformed"
code_word known.RequestTimeTooSkewed = codes "RequestTimeTooSkewed"

-- this status with this code
abbrev pub SaysCode : ℕ → KnownCode → ObjectReply → Type 0
SaysCode status code reply = (reply.status ≡ status) × (reply.code ≡ Some code)

-- 507, and a quota
abbrev pub IsFullReply : ObjectReply → Type 0
IsFullReply reply = (reply.status ≡ 507) ⊎ SaysCode 403 known.QuotaExceeded reply

-- another clock
abbrev pub IsClockReply : ObjectReply → Type 0
IsClockReply reply = SaysCode 403 known.RequestTimeTooSkewed reply

-- 401, another key or secret, a user that may not, another region
abbrev pub IsStrangerReply : ObjectReply → Type 0
IsStrangerReply reply =
    (reply.status ≡ 401) ⊎ (SaysCode 403 known.SignatureDoesNotMatch reply ⊎ (SaysCode 403 known.InvalidAccessKeyId reply
    ⊎ (SaysCode 403 known.UserSuspended reply ⊎ SaysCode 400 known.AuthorizationHeaderMalformed reply)))

-- 404 to a PUT: there is no bucket
abbrev pub IsBucketReply : ObjectAsk → ObjectReply → Type 0
IsBucketReply asked reply = (ask_method asked ≡ methods.Put) × (reply.status ≡ 404)

-- 501 to the condition
abbrev pub IsConditionReply : ObjectAsk → ObjectReply → Type 0
IsConditionReply asked reply = (is_conditional asked ≡ true) × (reply.status ≡ 501)

-- 429, and each 5xx that is none of those above
pub record IsBusyReply (asked : ObjectAsk) (reply : ObjectReply) : Type 0 where
  pub status : (reply.status ≡ 429) ⊎ ((500 ≤ reply.status) × (reply.status < 600))
  pub not_full : IsFullReply reply → ⊥
  pub has_conditions : IsConditionReply asked reply → ⊥

-- each 3xx and 4xx that is none of those above
pub record IsRefusal (asked : ObjectAsk) (reply : ObjectReply) : Type 0 where
  pub least : 300 ≤ reply.status
  pub most : reply.status < 500
  pub not_busy : reply.status ≢ 429
  pub not_full : IsFullReply reply → ⊥
  pub in_time : IsClockReply reply → ⊥
  pub is_admitted : IsStrangerReply reply → ⊥
  pub has_bucket : IsBucketReply asked reply → ⊥

-- a status that is of no class in which replies have faults, as 206
abbrev pub IsOtherStatus : ℕ → Type 0
IsOtherStatus status = (status < 300) ⊎ (600 ≤ status)

-- what each fault says of a reply that answers nothing
abbrev pub IsReplyFault : ObjectFault → ObjectAsk → ObjectReply → Type 0
IsReplyFault faults.Full asked reply = IsFullReply reply
IsReplyFault faults.Busy asked reply = IsBusyReply asked reply
IsReplyFault faults.NotAdmitted asked reply = IsStrangerReply reply
IsReplyFault faults.OtherClock asked reply = IsClockReply reply
IsReplyFault faults.Refused asked reply = IsRefusal asked reply
IsReplyFault faults.NoBucket asked reply = IsBucketReply asked reply
IsReplyFault faults.NoConditions asked reply = IsConditionReply asked reply
IsReplyFault faults.OtherReply asked reply = IsOtherStatus reply.status

-- whether the server is left alone for a while
abbrev pub rests_after : ObjectFault → Bool
rests_after faults.Full = false
rests_after faults.Busy = true
rests_after faults.NotAdmitted = true
rests_after faults.OtherClock = true
rests_after faults.Refused = false
rests_after faults.NoBucket = true
rests_after faults.NoConditions = false
rests_after faults.OtherReply = true

-- whether the connection is used on
abbrev pub keeps_lane : ObjectFault → Bool
keeps_lane faults.OtherReply = false
keeps_lane _ = true

-- whether the call that met it counts as one that failed
abbrev pub is_counted : ObjectFault → Bool
is_counted faults.Full = false
is_counted _ = true

-- whether a server that says so as the program starts ends it
abbrev pub ends_start : ObjectFault → Bool
ends_start faults.NotAdmitted = true
ends_start faults.OtherClock = true
ends_start faults.NoBucket = true
ends_start faults.NoConditions = true
ends_start _ = false
