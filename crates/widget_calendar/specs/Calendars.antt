-- What a calendar of a month shows.
use Rattle.std.specs.Prelude.{ℕ, ℤ, ⊤, ◌+◌, ◌-◌, ◌*◌, ◌/◌, ◌%◌, ◌==◌, nat_lt, min, if◌then◌else◌, List, [], ◌∷◌}
use Rattle.std.specs.Prelude.{◌++◌, length, codes, encode_utf8, slice_get, slice_index_or, Option, Some, None, is_some}
use Rattle.std.specs.Fmt.{signed_decimal}
use Rattle.jiff_core.specs.declared.civil.date.Date.{Date}
use Rattle.ratatui_core.specs.Layout.{Rect, Position}
use Rattle.ratatui_core.specs.Style.{Style, new_style, patch}
use Rattle.ratatui_core.specs.Buffer.{BufferData, Cell, styled, with_symbol}
use Rattle.widget_boxes.specs.{Boxes.one_if, Framed.columns_around_if, Framed.rows_around_if}
use Rattle.rtui_drawing.specs.Cuts.{cut_from}
use Rattle.rtui_drawing.specs.declared.cut.Cut.TheVariants.{First, Middle, Rows}
use Rattle.rtui_drawing.specs.Drawings.{Drawing, nothing, over, ◌before◌, put_style, put_change}
use Rattle.rtui_inside.specs.Inside.{DrawsInside, LeavesInside}
use Rattle.widget_calendar.specs.declared.monthly.Monthly.{Monthly}
use Rattle.widget_calendar.specs.Days.{weeks_of, day_at, is_day, is_in_month, day_number}

-- a cell with a character in a style
abbrev pub written : ℕ → Style → Cell → Cell
written ch style c = styled style (with_symbol (encode_utf8 ch) c)

abbrev pub written_if : Option ℕ → Style → Cell → Cell
written_if None style c = c
written_if (Some ch) style c = written ch style c

-- a text from the left of a row on, but for its first characters
abbrev pub letter_cell : List ℕ → ℕ → Style → Rect → Position → Cell → Cell
letter_cell text skipped style row p c = written_if (slice_get text (p.x - row.x + skipped)) style c

abbrev pub letters : List ℕ → ℕ → Style → Rect → Drawing
letters text skipped style row = put_change (letter_cell text skipped style row) (λ _ _. ⊤)

-- the names of the months
abbrev pub month_names : List (List ℕ)
month_names =
    codes "January" ∷ codes "February" ∷ codes "March" ∷ codes "April" ∷ codes "May" ∷ codes "June"
    ∷ codes "July" ∷ codes "August" ∷ codes "September" ∷ codes "October" ∷ codes "November"
    ∷ codes "December" ∷ []

abbrev pub month_name : ℕ → List ℕ
month_name month = slice_index_or month_names (month - 1) []

-- the month of a date, and its year
abbrev pub month_text : Date → List ℕ
month_text d = month_name d.month ++ codes " " ++ signed_decimal d.year

-- the month and its year in a row in their style, in its middle; of a text that is too long the middle is
-- shown
abbrev pub heading : Date → Style → Rect → Drawing
heading d style row =
    let text = month_text d in let middle = Middle (length text) in
    put_style style
    before over middle (letters text ((length text - row.width) / 2) style (cut_from middle row))

abbrev pub weekdays_text : List ℕ
weekdays_text = codes " Su Mo Tu We Th Fr Sa"

-- the character of the last digit of a number, and the one before it, a blank if there is none
abbrev pub last_digit : ℕ → ℕ
last_digit n = 48 + n % 10

abbrev pub digit_before : ℕ → ℕ
digit_before n = if nat_lt n 10 then 32 else last_digit (n / 10)

-- the background of a style alone
abbrev pub background_of : Style → Style
background_of style = record new_style { bg = style.bg }

-- the style of a day beside the month, if those are shown and the calendar has it: that of its own over
-- theirs, over that of the days
abbrev pub style_beside : (ℤ → Style) → Style → Option Style → ℤ → Option Style
style_beside own days None day = None
style_beside own days (Some beside) day = if is_day day then Some (patch (patch days beside) (own day)) else None

-- a cell of the two columns of a day: a character of its number, or a blank if it isn't written
abbrev pub day_cell : Style → Option Style → ℕ → Cell → Cell
day_cell days None ch c = written 32 (background_of days) c
day_cell days (Some style) ch c = written ch style c

-- the weeks of a date's month: which style each day has of its own, the style of the days, and that of the
-- days beside, if they are shown
module _ (own : ℤ → Style) (days : Style) (beside : Option Style) (d : Date) where
  -- the style in which the day in a place is written, if it is
  abbrev pub day_style : ℕ → Option Style
  day_style place =
      let day = day_at d place in
      if is_in_month d place then Some (patch days (own day)) else style_beside own days beside day

  -- a cell: each day has three columns, a blank and the two of its number; the first blank of a week has no
  -- style
  abbrev pub week_cell : Rect → Position → Cell → Cell
  week_cell r p c =
      let x = p.x - r.x in let place = 7 * (p.y - r.y) + x / 3 in let n = day_number d place in
      if x == 0 then written 32 new_style c
      else if x % 3 == 0 then written 32 (background_of days) c
      else if x % 3 == 1 then day_cell days (day_style place) (digit_before n) c
      else day_cell days (day_style place) (last_digit n) c

  -- the weeks, each in a row
  abbrev pub weeks : Rect → Drawing
  weeks r = over (First 21) (put_change (week_cell (cut_from (First 21) r)) (λ _ _. ⊤))

-- the month if it is shown, and the weekdays
abbrev pub heading_if : Option Style → Date → Rect → Drawing
heading_if None d row = nothing
heading_if (Some style) d row = heading d style row

abbrev pub weekdays_if : Option Style → Rect → Drawing
weekdays_if None row = nothing
weekdays_if (Some style) row = letters weekdays_text 0 style row

module _ {E : Type 0} where
  -- how many rows stand above the weekdays, and above the weeks
  abbrev pub rows_above_weekdays : Monthly E → ℕ
  rows_above_weekdays m = one_if (is_some m.show_month)

  abbrev pub rows_above_weeks : Monthly E → ℕ
  rows_above_weeks m = rows_above_weekdays m + one_if (is_some m.show_weekday)

  -- all that a calendar draws in an area: the month, the weekdays and the weeks, in rows from above
  abbrev pub calendar_drawing : (E → ℤ → Style) → Monthly E → Rect → Drawing
  calendar_drawing own m r =
      let month = Rows 0 1 in let weekdays = Rows (rows_above_weekdays m) 1 in
      let days = Rows (rows_above_weeks m) (weeks_of m.display_date) in
      over month (heading_if m.show_month m.display_date (cut_from month r))
      before over weekdays (weekdays_if m.show_weekday (cut_from weekdays r))
      before over days (weeks (own m.events) m.default_style m.show_surrounding m.display_date
      (cut_from days r))

  -- how many columns and rows it takes with its box, as far as an area may have them
  abbrev pub columns_of_month : Monthly E → ℕ
  columns_of_month m = min (21 + columns_around_if m.block) 65535

  abbrev pub rows_of_month : Monthly E → ℕ
  rows_of_month m = min (weeks_of m.display_date + rows_above_weeks m + rows_around_if m.block) 65535

  -- A calendar over the part of an area that a buffer has: its box, and inside the month. Nothing outside the
  -- area changes.
  abbrev pub RendersMonthly : (E → ℤ → Style) → Monthly E → Rect → BufferData → BufferData → Type 0
  RendersMonthly own m = DrawsInside new_style m.block (calendar_drawing own m)

  -- what a refusal leaves: if the box takes no memory it stands
  abbrev pub LeavesMonthly : (E → ℤ → Style) → Monthly E → Rect → BufferData → BufferData → Type 0
  LeavesMonthly own m = LeavesInside new_style m.block (calendar_drawing own m)
