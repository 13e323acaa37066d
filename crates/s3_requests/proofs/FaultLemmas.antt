-- A reply has one fault.
use Rattle.std.proofs.Common.{◌≡◌, arith, refl}
use Rattle.s3_requests.specs.declared.asks.ObjectAsk.{ObjectAsk}
use Rattle.s3_requests.specs.declared.replies.ObjectReply.{ObjectReply}
use Rattle.s3_requests.specs.declared.fault.ObjectFault.{ObjectFault}
use Rattle.s3_requests.specs.declared.fault.ObjectFault.TheVariants as faults
use Rattle.s3_requests.specs.ReplyFaults.{IsBucketReply, IsBusyReply, IsClockReply, IsConditionReply, IsFullReply, IsOtherStatus, IsRefusal, IsReplyFault, IsStrangerReply}

full_or_other_clock : (asked : ObjectAsk) (reply : ObjectReply) → IsFullReply reply → IsClockReply reply → ⊥
full_or_other_clock asked reply a b = grind arith

full_or_not_admitted : (asked : ObjectAsk) (reply : ObjectReply) → IsFullReply reply → IsStrangerReply reply → ⊥
full_or_not_admitted asked reply a b = grind arith

full_or_no_bucket : (asked : ObjectAsk) (reply : ObjectReply) → IsFullReply reply → IsBucketReply asked reply → ⊥
full_or_no_bucket asked reply a b = grind arith

full_or_no_conditions : (asked : ObjectAsk) (reply : ObjectReply) → IsFullReply reply → IsConditionReply asked reply → ⊥
full_or_no_conditions asked reply a b = grind arith

full_or_busy : (asked : ObjectAsk) (reply : ObjectReply) → IsFullReply reply → IsBusyReply asked reply → ⊥
full_or_busy asked reply a b = b.not_full a

full_or_refused : (asked : ObjectAsk) (reply : ObjectReply) → IsFullReply reply → IsRefusal asked reply → ⊥
full_or_refused asked reply a b = b.not_full a

full_or_other_reply : (asked : ObjectAsk) (reply : ObjectReply) → IsFullReply reply → IsOtherStatus reply.status → ⊥
full_or_other_reply asked reply a b = grind arith

other_clock_or_not_admitted : (asked : ObjectAsk) (reply : ObjectReply) → IsClockReply reply → IsStrangerReply reply → ⊥
other_clock_or_not_admitted asked reply a b = grind arith

other_clock_or_no_bucket : (asked : ObjectAsk) (reply : ObjectReply) → IsClockReply reply → IsBucketReply asked reply → ⊥
other_clock_or_no_bucket asked reply a b = grind arith

other_clock_or_no_conditions : (asked : ObjectAsk) (reply : ObjectReply) → IsClockReply reply → IsConditionReply asked reply → ⊥
other_clock_or_no_conditions asked reply a b = grind arith

other_clock_or_busy : (asked : ObjectAsk) (reply : ObjectReply) → IsClockReply reply → IsBusyReply asked reply → ⊥
other_clock_or_busy asked reply a b = let s = b.status in grind arith

other_clock_or_refused : (asked : ObjectAsk) (reply : ObjectReply) → IsClockReply reply → IsRefusal asked reply → ⊥
other_clock_or_refused asked reply a b = b.in_time a

other_clock_or_other_reply : (asked : ObjectAsk) (reply : ObjectReply) → IsClockReply reply → IsOtherStatus reply.status → ⊥
other_clock_or_other_reply asked reply a b = grind arith

not_admitted_or_no_bucket : (asked : ObjectAsk) (reply : ObjectReply) → IsStrangerReply reply → IsBucketReply asked reply → ⊥
not_admitted_or_no_bucket asked reply a b = grind arith

not_admitted_or_no_conditions : (asked : ObjectAsk) (reply : ObjectReply) → IsStrangerReply reply → IsConditionReply asked reply → ⊥
not_admitted_or_no_conditions asked reply a b = grind arith

not_admitted_or_busy : (asked : ObjectAsk) (reply : ObjectReply) → IsStrangerReply reply → IsBusyReply asked reply → ⊥
not_admitted_or_busy asked reply a b = let s = b.status in grind arith

not_admitted_or_refused : (asked : ObjectAsk) (reply : ObjectReply) → IsStrangerReply reply → IsRefusal asked reply → ⊥
not_admitted_or_refused asked reply a b = b.is_admitted a

not_admitted_or_other_reply : (asked : ObjectAsk) (reply : ObjectReply) → IsStrangerReply reply → IsOtherStatus reply.status → ⊥
not_admitted_or_other_reply asked reply a b = grind arith

no_bucket_or_no_conditions : (asked : ObjectAsk) (reply : ObjectReply) → IsBucketReply asked reply → IsConditionReply asked reply → ⊥
no_bucket_or_no_conditions asked reply a b = grind arith

no_bucket_or_busy : (asked : ObjectAsk) (reply : ObjectReply) → IsBucketReply asked reply → IsBusyReply asked reply → ⊥
no_bucket_or_busy asked reply a b = let s = b.status in grind arith

no_bucket_or_refused : (asked : ObjectAsk) (reply : ObjectReply) → IsBucketReply asked reply → IsRefusal asked reply → ⊥
no_bucket_or_refused asked reply a b = b.has_bucket a

no_bucket_or_other_reply : (asked : ObjectAsk) (reply : ObjectReply) → IsBucketReply asked reply → IsOtherStatus reply.status → ⊥
no_bucket_or_other_reply asked reply a b = grind arith

no_conditions_or_busy : (asked : ObjectAsk) (reply : ObjectReply) → IsConditionReply asked reply → IsBusyReply asked reply → ⊥
no_conditions_or_busy asked reply a b = b.has_conditions a

no_conditions_or_refused : (asked : ObjectAsk) (reply : ObjectReply) → IsConditionReply asked reply → IsRefusal asked reply → ⊥
no_conditions_or_refused asked reply a b = let l = b.least in let m = b.most in let n = b.not_busy in grind arith

no_conditions_or_other_reply : (asked : ObjectAsk) (reply : ObjectReply) → IsConditionReply asked reply → IsOtherStatus reply.status → ⊥
no_conditions_or_other_reply asked reply a b = grind arith

busy_or_refused : (asked : ObjectAsk) (reply : ObjectReply) → IsBusyReply asked reply → IsRefusal asked reply → ⊥
busy_or_refused asked reply a b = let s = a.status in let l = b.least in let m = b.most in let n = b.not_busy in grind arith

busy_or_other_reply : (asked : ObjectAsk) (reply : ObjectReply) → IsBusyReply asked reply → IsOtherStatus reply.status → ⊥
busy_or_other_reply asked reply a b = let s = a.status in grind arith

refused_or_other_reply : (asked : ObjectAsk) (reply : ObjectReply) → IsRefusal asked reply → IsOtherStatus reply.status → ⊥
refused_or_other_reply asked reply a b = let l = a.least in let m = a.most in grind arith

pub one_fault : (one another : ObjectFault) (asked : ObjectAsk) (reply : ObjectReply) → IsReplyFault one asked reply → IsReplyFault another asked reply → one ≡ another
one_fault faults.Full faults.Full asked reply a b = refl
one_fault faults.Full faults.OtherClock asked reply a b = absurd (full_or_other_clock asked reply a b)
one_fault faults.Full faults.NotAdmitted asked reply a b = absurd (full_or_not_admitted asked reply a b)
one_fault faults.Full faults.NoBucket asked reply a b = absurd (full_or_no_bucket asked reply a b)
one_fault faults.Full faults.NoConditions asked reply a b = absurd (full_or_no_conditions asked reply a b)
one_fault faults.Full faults.Busy asked reply a b = absurd (full_or_busy asked reply a b)
one_fault faults.Full faults.Refused asked reply a b = absurd (full_or_refused asked reply a b)
one_fault faults.Full faults.OtherReply asked reply a b = absurd (full_or_other_reply asked reply a b)
one_fault faults.OtherClock faults.Full asked reply a b = absurd (full_or_other_clock asked reply b a)
one_fault faults.OtherClock faults.OtherClock asked reply a b = refl
one_fault faults.OtherClock faults.NotAdmitted asked reply a b = absurd (other_clock_or_not_admitted asked reply a b)
one_fault faults.OtherClock faults.NoBucket asked reply a b = absurd (other_clock_or_no_bucket asked reply a b)
one_fault faults.OtherClock faults.NoConditions asked reply a b = absurd (other_clock_or_no_conditions asked reply a b)
one_fault faults.OtherClock faults.Busy asked reply a b = absurd (other_clock_or_busy asked reply a b)
one_fault faults.OtherClock faults.Refused asked reply a b = absurd (other_clock_or_refused asked reply a b)
one_fault faults.OtherClock faults.OtherReply asked reply a b = absurd (other_clock_or_other_reply asked reply a b)
one_fault faults.NotAdmitted faults.Full asked reply a b = absurd (full_or_not_admitted asked reply b a)
one_fault faults.NotAdmitted faults.OtherClock asked reply a b = absurd (other_clock_or_not_admitted asked reply b a)
one_fault faults.NotAdmitted faults.NotAdmitted asked reply a b = refl
one_fault faults.NotAdmitted faults.NoBucket asked reply a b = absurd (not_admitted_or_no_bucket asked reply a b)
one_fault faults.NotAdmitted faults.NoConditions asked reply a b = absurd (not_admitted_or_no_conditions asked reply a b)
one_fault faults.NotAdmitted faults.Busy asked reply a b = absurd (not_admitted_or_busy asked reply a b)
one_fault faults.NotAdmitted faults.Refused asked reply a b = absurd (not_admitted_or_refused asked reply a b)
one_fault faults.NotAdmitted faults.OtherReply asked reply a b = absurd (not_admitted_or_other_reply asked reply a b)
one_fault faults.NoBucket faults.Full asked reply a b = absurd (full_or_no_bucket asked reply b a)
one_fault faults.NoBucket faults.OtherClock asked reply a b = absurd (other_clock_or_no_bucket asked reply b a)
one_fault faults.NoBucket faults.NotAdmitted asked reply a b = absurd (not_admitted_or_no_bucket asked reply b a)
one_fault faults.NoBucket faults.NoBucket asked reply a b = refl
one_fault faults.NoBucket faults.NoConditions asked reply a b = absurd (no_bucket_or_no_conditions asked reply a b)
one_fault faults.NoBucket faults.Busy asked reply a b = absurd (no_bucket_or_busy asked reply a b)
one_fault faults.NoBucket faults.Refused asked reply a b = absurd (no_bucket_or_refused asked reply a b)
one_fault faults.NoBucket faults.OtherReply asked reply a b = absurd (no_bucket_or_other_reply asked reply a b)
one_fault faults.NoConditions faults.Full asked reply a b = absurd (full_or_no_conditions asked reply b a)
one_fault faults.NoConditions faults.OtherClock asked reply a b = absurd (other_clock_or_no_conditions asked reply b a)
one_fault faults.NoConditions faults.NotAdmitted asked reply a b = absurd (not_admitted_or_no_conditions asked reply b a)
one_fault faults.NoConditions faults.NoBucket asked reply a b = absurd (no_bucket_or_no_conditions asked reply b a)
one_fault faults.NoConditions faults.NoConditions asked reply a b = refl
one_fault faults.NoConditions faults.Busy asked reply a b = absurd (no_conditions_or_busy asked reply a b)
one_fault faults.NoConditions faults.Refused asked reply a b = absurd (no_conditions_or_refused asked reply a b)
one_fault faults.NoConditions faults.OtherReply asked reply a b = absurd (no_conditions_or_other_reply asked reply a b)
one_fault faults.Busy faults.Full asked reply a b = absurd (full_or_busy asked reply b a)
one_fault faults.Busy faults.OtherClock asked reply a b = absurd (other_clock_or_busy asked reply b a)
one_fault faults.Busy faults.NotAdmitted asked reply a b = absurd (not_admitted_or_busy asked reply b a)
one_fault faults.Busy faults.NoBucket asked reply a b = absurd (no_bucket_or_busy asked reply b a)
one_fault faults.Busy faults.NoConditions asked reply a b = absurd (no_conditions_or_busy asked reply b a)
one_fault faults.Busy faults.Busy asked reply a b = refl
one_fault faults.Busy faults.Refused asked reply a b = absurd (busy_or_refused asked reply a b)
one_fault faults.Busy faults.OtherReply asked reply a b = absurd (busy_or_other_reply asked reply a b)
one_fault faults.Refused faults.Full asked reply a b = absurd (full_or_refused asked reply b a)
one_fault faults.Refused faults.OtherClock asked reply a b = absurd (other_clock_or_refused asked reply b a)
one_fault faults.Refused faults.NotAdmitted asked reply a b = absurd (not_admitted_or_refused asked reply b a)
one_fault faults.Refused faults.NoBucket asked reply a b = absurd (no_bucket_or_refused asked reply b a)
one_fault faults.Refused faults.NoConditions asked reply a b = absurd (no_conditions_or_refused asked reply b a)
one_fault faults.Refused faults.Busy asked reply a b = absurd (busy_or_refused asked reply b a)
one_fault faults.Refused faults.Refused asked reply a b = refl
one_fault faults.Refused faults.OtherReply asked reply a b = absurd (refused_or_other_reply asked reply a b)
one_fault faults.OtherReply faults.Full asked reply a b = absurd (full_or_other_reply asked reply b a)
one_fault faults.OtherReply faults.OtherClock asked reply a b = absurd (other_clock_or_other_reply asked reply b a)
one_fault faults.OtherReply faults.NotAdmitted asked reply a b = absurd (not_admitted_or_other_reply asked reply b a)
one_fault faults.OtherReply faults.NoBucket asked reply a b = absurd (no_bucket_or_other_reply asked reply b a)
one_fault faults.OtherReply faults.NoConditions asked reply a b = absurd (no_conditions_or_other_reply asked reply b a)
one_fault faults.OtherReply faults.Busy asked reply a b = absurd (busy_or_other_reply asked reply b a)
one_fault faults.OtherReply faults.Refused asked reply a b = absurd (refused_or_other_reply asked reply b a)
one_fault faults.OtherReply faults.OtherReply asked reply a b = refl
