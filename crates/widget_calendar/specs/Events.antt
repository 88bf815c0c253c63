-- The days that have a style of their own.
use Rattle.std.specs.Prelude.{◌≡◌, ℤ, Bool, if◌then◌else◌, List, unwrap_or}
use Rattle.std.specs.Ordering.{int_cmp, is_eq}
use Rattle.std.specs.Map.{lookup}
use Rattle.ratatui_core.specs.Style.{Style, new_style}
use Rattle.jiff_core.specs.{declared.civil.date.Date.Date, Date.epoch_day}
use Rattle.widget_calendar.specs.declared.events.CalendarEventStore.{CalendarEventStore}

-- the dates of a store with their styles
abbrev pub dates_of : CalendarEventStore → List (Date × Style)
dates_of s = s.events.entries

-- a date is the day of this number
abbrev pub is_on : ℤ → Date → Bool
is_on day d = is_eq (int_cmp day (epoch_day d))

-- the style of a day: that of its event, if it has one
abbrev pub style_on : CalendarEventStore → ℤ → Style
style_on s day = unwrap_or (lookup (is_on day) (dates_of s)) new_style

-- the date has this style now, and each other day the one that it had
abbrev pub IsAdded : Date → Style → CalendarEventStore → CalendarEventStore → Type 0
IsAdded d style old new = (day : ℤ) → style_on new day ≡ if is_on day d then style else style_on old day
