-- Calendars keep cells plain.
use Rattle.std.proofs.Common.{◌≡◌, ℕ, zero, suc, ℤ, ◌+◌, ◌*◌, ◌-◌, ◌%◌, ◌/◌, ◌<◌, ◌≤◌, nat_lt, true, ◌==◌, List, [], ◌∷◌, ◌++◌}
use Rattle.std.proofs.Common.{pos, negsuc, if◌then◌else◌, false, codes, slice_get, slice_index_or, Option, Some, None, IfSome, refl, subst, arith, lit<}
use Rattle.std.specs.{Char.encode_utf8, Str.IsAscii}
use Rattle.std.specs.{List.list_all, Fmt.signed_decimal}
use Rattle.std.proofs.lemmas.Bool.{and_parts}
use Rattle.std.proofs.lemmas.Bool.Decides.{nat_tests}
use Rattle.std.proofs.lemmas.{Option.get_or_from_slice_get, Str.IsAscii-append, Str.Ascii.IsAscii-nil, Fmt.IsAscii-signed}
use Rattle.jiff_core.specs.declared.civil.date.Date.{Date}
use Rattle.jiff_core.specs.Calendar.{IsYear}
use Rattle.jiff_core.proofs.SignedLemmas.{signed_arith}
use Rattle.ratatui_core.specs.Layout.{Rect, Position, intersected}
use Rattle.ratatui_core.specs.Style.{Style, new_style}
use Rattle.ratatui_core.specs.Buffer.{BufferData, Cell, with_symbol, text_width, IsPlain, IsPlainFrom}
use Rattle.ratatui_core.proofs.BufferLemmas.{plain-styled, plain-with_symbol, plain-if}
use Rattle.widget_boxes.specs.{Boxes.IsNarrowBox, Framed.inner_if}
use Rattle.rtui_drawing.specs.{Cuts.cut_from, declared.cut.Cut.TheVariants.First, declared.cut.Cut.TheVariants.Rows}
use Rattle.rtui_drawing.proofs.Laws.{IsNarrowDrawing}
use Rattle.rtui_inside.proofs.InsideLemmas.{inside-plain}
use Rattle.widget_calendar.specs.Days.{weeks_of, day_number}
use Rattle.widget_calendar.specs.Calendars.{written, written_if, month_names, month_name, month_text, weekdays_text, heading_if}
use Rattle.widget_calendar.specs.Calendars.{weekdays_if, last_digit, digit_before, background_of, day_style, day_cell, week_cell, weeks}
use Rattle.widget_calendar.specs.Calendars.{rows_above_weeks, calendar_drawing, RendersMonthly}
use Rattle.widget_calendar.specs.declared.monthly.Monthly.{Monthly}

-- a character of one byte takes one column
ascii-code : (ch : ℕ) → ch < 128 → encode_utf8 ch ≡ (ch ∷ [])
unfolding encode_utf8
ascii-code ch lt = let test : nat_lt ch 128 ≡ true = grind (arith, nat_tests) in rw test refl

ascii-narrow : (ch : ℕ) → ch < 128 → text_width (encode_utf8 ch) ≤ 1
unfolding text_width
ascii-narrow ch lt = rw (ascii-code ch lt) (omega arith)

written-plain : (ch : ℕ) (style : Style) (c : Cell) → ch < 128 → IsPlain c → IsPlain (written ch style c)
written-plain ch style c lt is =
    plain-styled style (with_symbol (encode_utf8 ch) c) (plain-with_symbol (encode_utf8 ch) c is (ascii-narrow ch lt))

-- a text of such characters
ascii-text : (text : List ℕ) → list_all (λ b. nat_lt b 128) text ≡ true → IsAscii text
ascii-text [] all k = IsAscii-nil k
ascii-text (b ∷ bs) all zero = let test = (and_parts (nat_lt b 128) (list_all (λ b. nat_lt b 128) bs) all).0 in grind (arith, nat_tests)
ascii-text (b ∷ bs) all (suc k) = ascii-text bs (and_parts (nat_lt b 128) (list_all (λ b. nat_lt b 128) bs) all).1 k

ascii-name : (names : List (List ℕ)) (n : ℕ) → list_all (λ name. list_all (λ b. nat_lt b 128) name) names ≡ true
    → IsAscii (slice_index_or names n [])
ascii-name [] n all = IsAscii-nil
ascii-name (name ∷ names) zero all = ascii-text name (and_parts _ _ all).0
ascii-name (name ∷ names) (suc n) all = ascii-name names n (and_parts _ _ all).1

year-ascii : (year : ℤ) → IsYear year → IsAscii (signed_decimal year)
year-ascii (pos n) is = IsAscii-signed (pos n) (omega (arith, signed_arith, is.0, is.1))
year-ascii (negsuc n) is = IsAscii-signed (negsuc n) (omega (arith, signed_arith, is.0, is.1))

month-ascii : (d : Date) → IsAscii (month_text d)
month-ascii d =
    let name = month_name d.month in
    IsAscii-append (name ++ codes " ") (signed_decimal d.year) (IsAscii-append name (codes " ")
    (ascii-name month_names (d.month - 1) refl) (ascii-text (codes " ") refl)) (year-ascii d.year d.year_in)

-- each of its characters in a cell
letter-plain : (text : List ℕ) (k : ℕ) (style : Style) (c : Cell) → IsAscii text → IsPlain c
    → IsPlain (written_if (slice_get text k) style c)
letter-plain text k style c ascii is = cases (slice_get text k) refl
  where
    cases : (o : Option ℕ) → slice_get text k ≡ o → IsPlain (written_if o style c)
    cases None e = is
    cases (Some ch) e = written-plain ch style c (subst (λ b. b < 128) (get_or_from_slice_get text k ch 0 e) (ascii k)) is

digit-ascii : (n : ℕ) → last_digit n < 128
digit-ascii n = omega arith

before-ascii : (n : ℕ) → digit_before n < 128
before-ascii n = elim (nat_lt n 10) as (λ b. (if b then 32 else last_digit (n / 10)) < 128) [
  | true ↦ lit< tt
  | false ↦ digit-ascii (n / 10)
]

day-plain : (days : Style) (o : Option Style) (ch : ℕ) (c : Cell) → ch < 128 → IsPlain c → IsPlain (day_cell days o ch c)
day-plain days None ch c lt is = written-plain 32 (background_of days) c (lit< tt) is
day-plain days (Some style) ch c lt is = written-plain ch style c lt is

module _ (own : ℤ → Style) (days : Style) (beside : Option Style) (d : Date) where
  week-plain : (r : Rect) (p : Position) (c : Cell) → IsPlain c → IsPlain (week_cell own days beside d r p c)
  week-plain r p c is =
      let x = p.x - r.x in
      let place = 7 * (p.y - r.y) + x / 3 in
      let n = day_number d place in
      let look = day_style own days beside d place in
      plain-if (x == 0) _ _ (written-plain 32 new_style c (lit< tt) is)
      (plain-if (x % 3 == 0) _ _ (written-plain 32 (background_of days) c (lit< tt) is)
      (plain-if (x % 3 == 1) _ _ (day-plain days look (digit_before n) c (before-ascii n) is)
      (day-plain days look (last_digit n) c (digit-ascii n) is)))

  weeks-narrow : (r : Rect) → IsNarrowDrawing (weeks own days beside d r)
  weeks-narrow r = λ p c is. week-plain (cut_from (First 21) r) p c is

heading-narrow : (o : Option Style) (d : Date) (row : Rect) → IsNarrowDrawing (heading_if o d row)
heading-narrow None d row = tt
heading-narrow (Some style) d row = (tt, λ p c is. letter-plain (month_text d) _ style c (month-ascii d) is)

weekdays-narrow : (o : Option Style) (row : Rect) → IsNarrowDrawing (weekdays_if o row)
weekdays-narrow None row = tt
weekdays-narrow (Some style) row = λ p c is. letter-plain weekdays_text (p.x - row.x + 0) style c (ascii-text weekdays_text refl) is

calendar-narrow : {E : Type 0} (own : E → ℤ → Style) (m : Monthly E) (r : Rect) → IsNarrowDrawing (calendar_drawing own m r)
calendar-narrow own m r = (
  heading-narrow m.show_month m.display_date _,
  (
    weekdays-narrow m.show_weekday _,
    weeks-narrow (own m.events) m.default_style m.show_surrounding m.display_date
        (cut_from (Rows (rows_above_weeks m) (weeks_of m.display_date)) r),
  ),
)

pub calendar-plain : {E : Type 0} (own : E → ℤ → Style) (m : Monthly E) (area : Rect) (old new : BufferData)
    → IfSome m.block IsNarrowBox → IsPlainFrom 0 old → RendersMonthly own m area old new → IsPlainFrom 0 new
calendar-plain own m area old new box plain is =
    let r = inner_if m.block (intersected area old.area) in
    inside-plain new_style m.block area old new box plain (calendar_drawing own m) (calendar-narrow own m r) is
