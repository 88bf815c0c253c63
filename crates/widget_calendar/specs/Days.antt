-- The days of a month in weeks of seven columns, from Sunday on. Days have numbers: 1970-01-01 is 0.
use Rattle.std.specs.Prelude.{◌≡◌, ℕ, Bool, true, ◌<◌, not, ◌+◌, ◌-◌, ◌*◌, ◌/◌, ◌%◌, ◌==◌, ◌&&◌, nat_lt, if◌then◌else◌}
use Rattle.std.specs.Prelude.{ℤ, pos, neg_ℤ, ◌+ℤ◌, ◌-ℤ◌, int_lt}
use Rattle.jiff_core.specs.declared.civil.date.Date.{Date}
use Rattle.jiff_core.specs.Calendar.{days_from_civil, days_in_month, weekday_number}
use Rattle.jiff_core.specs.Date.{month_length}

-- the number of the 1st of a date's month
abbrev pub first_day : Date → ℤ
first_day d = days_from_civil d.year d.month 1

-- in which column the 1st stands: how many days after a Sunday it is
abbrev pub column_of_first : Date → ℕ
column_of_first d = (weekday_number (first_day d) + 1) % 7

-- how many weeks have a day of the month
abbrev pub weeks_of : Date → ℕ
weeks_of d = (column_of_first d + month_length d + 6) / 7

-- the day that stands in a place, counted from the Sunday at or before the 1st on: 7 for each week, and 1 for
-- each column
abbrev pub day_at : Date → ℕ → ℤ
day_at d place = first_day d -ℤ pos (column_of_first d) +ℤ pos place

-- the calendar has the day: it is one of the years from -9999 to 9999
abbrev pub is_day : ℤ → Bool
is_day day = not (int_lt day (neg_ℤ (pos 4_371_587))) && not (int_lt (pos 2_932_896) day)

-- the day in a place is one of the month
abbrev pub is_in_month : Date → ℕ → Bool
is_in_month d place =
    let f = column_of_first d in not (nat_lt place f) && nat_lt place (f + month_length d)

-- how many days the month before has
abbrev pub length_before : Date → ℕ
length_before d = if d.month == 1 then 31 else days_in_month d.year (d.month - 1)

-- which day of its month stands in a place: the month's days stand one after the other from the 1st on,
-- before them the last ones of the month before, and after them the first ones of the month after
abbrev pub day_number : Date → ℕ → ℕ
day_number d place =
    let f = column_of_first d in
    if nat_lt place f then length_before d + place + 1 - f
    else if nat_lt place (f + month_length d) then place + 1 - f
    else place + 1 - (f + month_length d)

-- a day of the month stands in a week
abbrev pub HasOwnDay : Date → ℕ → Type 0
HasOwnDay d week = (column : ℕ) × (column < 7) × (is_in_month d (7 * week + column) ≡ true)
