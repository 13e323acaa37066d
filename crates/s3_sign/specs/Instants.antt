-- A second of the calendar, and its texts in a signature (Amazon S3, "Authenticating Requests: Using the Authorization
-- Header (AWS Signature Version 4)"; ISO 8601, basic format).
use Rattle.std.specs.Prelude.{ℕ, List, ◌++◌, codes}
use Rattle.httpdate.specs.Calendar.{seconds_from_civil}
use Rattle.httpdate.specs.Text.{two_digits, four_digits}
use Rattle.s3_sign.specs.declared.utc_time.UtcTime.{UtcTime}

-- seconds since 1970, with no leap seconds
abbrev pub seconds_of : UtcTime → ℕ
seconds_of time = seconds_from_civil time.year time.month time.day time.hour time.minute time.second

-- YYYYMMDD
unfoldable pub day_text : UtcTime → List ℕ
day_text time = four_digits time.year ++ two_digits time.month ++ two_digits time.day

-- YYYYMMDDTHHMMSSZ
unfoldable pub time_text : UtcTime → List ℕ
time_text time =
    day_text time ++ codes "T" ++ two_digits time.hour ++ two_digits time.minute ++ two_digits time.second ++ codes "Z"
