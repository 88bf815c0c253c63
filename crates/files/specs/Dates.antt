-- Dates as they are written.
use Rattle.std.specs.Prelude.{◌≡◌, ◌<◌, ℕ, ◌/◌, ◌%◌, List, ◌++◌, codes, Option, Some, None, pos, unsigned_abs}
use Rattle.std.specs.Fmt.{decimal}
use Rattle.jiff_core.specs.DateTime.{civil_nanos}
use Rattle.jiff_core.specs.declared.civil.date.Date.{Date}
use Rattle.jiff_core.specs.declared.civil.datetime.DateTime.{DateTime}
use Rattle.jiff_core.specs.declared.civil.time.Time.{Time}

-- the last nanosecond of the year 9999, counted from 1970 on
abbrev pub last_nanos : ℕ
last_nanos = 253402300799999999999

-- the date and the time of day so many nanoseconds after 1970, where no zone's time is counted; only after
-- the year 9999 there is none
abbrev pub IsDateAfter : ℕ → Option DateTime → Type 0
IsDateAfter nanos (Some date) = civil_nanos date ≡ pos nanos
IsDateAfter nanos None = last_nanos < nanos

-- the last two digits of a number
abbrev pub two_digits : ℕ → List ℕ
two_digits n = decimal (n / 10 % 10) ++ decimal (n % 10)

-- the last four
abbrev pub four_digits : ℕ → List ℕ
four_digits n = two_digits (n / 100) ++ two_digits n

-- a date, as `2024-02-29`
abbrev pub day_text : ℕ → ℕ → List ℕ
day_text month day = codes "-" ++ two_digits month ++ codes "-" ++ two_digits day

abbrev pub date_text : Date → List ℕ
date_text d = four_digits (unsigned_abs d.year) ++ day_text d.month d.day

-- a time of day up to its minute, as `23:59`, and whole, as `23:59:05`, also after the letter that leads to
-- it
abbrev pub minute_text : Time → List ℕ
minute_text t = two_digits t.hour ++ codes ":" ++ two_digits t.minute

abbrev pub clock_text : Time → List ℕ
clock_text t = minute_text t ++ codes ":" ++ two_digits t.second

abbrev pub time_text : Time → List ℕ
time_text t = codes "T" ++ clock_text t

-- both, as `2024-02-29T23:59:05`
abbrev pub date_time_text : DateTime → List ℕ
date_time_text d = date_text d.date ++ time_text d.time

-- both up to the minute, as `2024-02-29 23:59`
abbrev pub date_minute_text : DateTime → List ℕ
date_minute_text d = date_text d.date ++ codes " " ++ minute_text d.time
