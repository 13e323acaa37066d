use Rattle.s3_sign.proofs.CalendarLemmas.{ReachedYear}
use Rattle.s3_sign.proofs.calendar.year_of.Given as goal

abbrev pub invariant-loop-past : goal.invariant-loop-past
invariant-loop-past l = ReachedYear l.fn.days l.year l.past

abbrev pub decreases-loop-past : goal.decreases-loop-past
decreases-loop-past l = l.past
