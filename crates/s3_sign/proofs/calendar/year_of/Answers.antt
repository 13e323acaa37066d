use Rattle.s3_sign.proofs.CalendarLemmas.{from_2000, year_kept}
use Rattle.s3_sign.proofs.calendar.year_of.Goals as goal

pub loop-past-init : goal.loop-past-init
loop-past-init c = from_2000 c.args.days c.requires.from

pub loop-past-preserved : goal.loop-past-preserved
loop-past-preserved c =
    year_kept c.args.days c.loop-past.year c.loop-past.past c.days_in_year.result c.days_in_year-past.result c.requires.to c.loop-past.invariant
    c.days_in_year.ensures c.days_in_year-past.ensures c.loop-past-test.true
