use Rattle.s3_sign.proofs.CalendarLemmas.{ReachedMonth}
use Rattle.s3_sign.proofs.calendar.date_of.Given as goal

abbrev pub invariant-loop-past : goal.invariant-loop-past
invariant-loop-past l = ReachedMonth l.year l.initial.past l.month l.past

abbrev pub decreases-loop-past : goal.decreases-loop-past
decreases-loop-past l = l.past
