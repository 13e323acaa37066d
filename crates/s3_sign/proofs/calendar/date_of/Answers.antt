use Rattle.s3_sign.proofs.CalendarLemmas.{from_january, month_kept}
use Rattle.s3_sign.proofs.calendar.date_of.Goals as goal

pub loop-past-init : goal.loop-past-init
loop-past-init c = from_january c.year_of-year.result.0 c.year_of-year.result.1

pub loop-past-preserved : goal.loop-past-preserved
loop-past-preserved c =
    month_kept c.year_of-year.result.0 c.year_of-year.result.1 c.loop-past.month c.loop-past.past c.days_in_month.result c.days_in_month-past.result
    c.year_of-year.ensures.past c.loop-past.invariant c.days_in_month.ensures c.days_in_month-past.ensures c.loop-past-test.true
