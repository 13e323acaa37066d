-- Years and months that are counted up.
use Rattle.std.proofs.Common.{◌≡◌, ℕ, suc, ◌+◌, ◌-◌, ◌<◌, ◌≤◌, arith, refl, inl, inr, zero-add}
use Rattle.std.proofs.lemmas.Bool.{cases_eq}
use Rattle.std.proofs.lemmas.Bool.Decides.{nat_tests}
use Rattle.httpdate.specs.Calendar.{days_in_year, days_in_month, days_of_years, days_of_months, days_from_civil, IsCivilDate}
use Rattle.httpdate.proofs.CalendarLemmas.{days_of_years_closed, days_of_months_more, days_of_months_all}

-- this year begins not after the day, which is so many days past its beginning
pub record ReachedYear (days year past : ℕ) : Type 0 where
  pub first : 2000 ≤ year
  pub last : year ≤ 9999
  pub value : days_of_years (year - 1970) + past ≡ days

pub from_2000 : (days : ℕ) → 10957 ≤ days → ReachedYear days 2000 (days - 10957)
from_2000 days h = record { first = omega arith; last = omega arith; value = omega (arith, days_of_years_closed 30) }

-- a year on
next_year : (year : ℕ) → 2000 ≤ year → days_of_years (year + 1 - 1970) ≡ days_of_years (year - 1970) + days_in_year year
unfolding days_of_years
next_year year h =
    let on : year + 1 - 1970 ≡ suc (year - 1970) = omega arith in
    let same : 1970 + (year - 1970) ≡ year = omega arith in
    rw (on, same) refl

end_of_years : days_of_years (10000 - 1970) ≡ 2932897
end_of_years = omega (arith, days_of_years_closed 8030)

not_past : (days past : ℕ) → days < 2932897 → days_of_years (10000 - 1970) + past ≡ days → 10000 ≤ 9999
not_past days past h e = absurd (omega (arith, end_of_years))

still_last : (days year past : ℕ) → days < 2932897 → year ≤ 10000 → days_of_years (year - 1970) + past ≡ days → year ≤ 9999
still_last days year past h most e = elim (cases_eq year 10000) [
  | inl same ↦ rw same (not_past days past h (rw same at e))
  | inr other ↦ omega arith
]

pub year_on : (days year past : ℕ) → days < 2932897 → ReachedYear days year past → days_in_year year ≤ past → ReachedYear days (year + 1) (past - days_in_year year)
year_on days year past h r long =
    let value : days_of_years (year + 1 - 1970) + (past - days_in_year year) ≡ days = omega (arith, next_year year r.first, r.value) in
    record { first = omega (arith, r.first); last = still_last days (year + 1) (past - days_in_year year) h (omega (arith, r.last)) value; value = value }

-- this month begins not after the day of its year, which is so many days past its beginning
pub record ReachedMonth (year day month past : ℕ) : Type 0 where
  pub first : 1 ≤ month
  pub last : month ≤ 12
  pub value : days_of_months year (month - 1) + past ≡ day

pub from_january : (year day : ℕ) → ReachedMonth year day 1 day
unfolding days_of_months
from_january year day = record { first = omega arith; last = omega arith; value = zero-add day }

past_december : (year day past : ℕ) → day < days_in_year year → days_of_months year (13 - 1) + past ≡ day → 13 ≤ 12
past_december year day past h e = absurd (omega (arith, days_of_months_all year))

within_year : (year day month past : ℕ) → day < days_in_year year → month ≤ 13 → days_of_months year (month - 1) + past ≡ day → month ≤ 12
within_year year day month past h most e = elim (cases_eq month 13) [
  | inl same ↦ rw same (past_december year day past h (rw same at e))
  | inr other ↦ omega arith
]

pub month_on : (year day month past : ℕ) → day < days_in_year year → ReachedMonth year day month past → days_in_month year month ≤ past
    → ReachedMonth year day (month + 1) (past - days_in_month year month)
month_on year day month past h r long =
    let back : month + 1 - 1 ≡ month = omega arith in
    let value : days_of_months year (month + 1 - 1) + (past - days_in_month year month) ≡ day =
    rw back (omega (arith, days_of_months_more year month r.first, r.value)) in
    record { first = omega arith; last = within_year year day (month + 1) (past - days_in_month year month) h (omega (arith, r.last)) value; value = value }

month_length : (year month : ℕ) → days_in_month year month ≤ 31
month_length year month = grind (arith, nat_tests)

-- the day of the month
pub day_in_month : (year day month past : ℕ) → ReachedMonth year day month past → past < days_in_month year month → past < 31
day_in_month year day month past r h = omega (arith, month_length year month)

pub is_civil : (year day month past : ℕ) → 2000 ≤ year → year ≤ 9999 → ReachedMonth year day month past → past < days_in_month year month
    → IsCivilDate year month (past + 1)
is_civil year day month past first last r h = ((omega arith, last), (r.first, r.last), (omega arith, omega arith))

pub days_of_date : (days year day month past : ℕ) → days_of_years (year - 1970) + day ≡ days → ReachedMonth year day month past
    → days_from_civil year month (past + 1) ≡ days
days_of_date days year day month past e r = omega (arith, r.value)

-- what the loops keep, where the lengths are those that were given
pub year_kept : (days year past tested taken : ℕ) → days < 2932897 → ReachedYear days year past → tested ≡ days_in_year year → taken ≡ days_in_year year
    → tested ≤ past → ReachedYear days (year + 1) (past - taken)
year_kept days year past tested taken h r e f long = rw f (year_on days year past h r (rw e at long))

pub month_kept : (year day month past tested taken : ℕ) → day < days_in_year year → ReachedMonth year day month past → tested ≡ days_in_month year month
    → taken ≡ days_in_month year month → tested ≤ past → ReachedMonth year day (month + 1) (past - taken)
month_kept year day month past tested taken h r e f long = rw f (month_on year day month past h r (rw e at long))
