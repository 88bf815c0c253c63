-- A text area in an area: what is drawn of it.
use Rattle.std.specs.Prelude.{◌≡◌, ℕ, zero, suc, ◌+◌, ◌-◌, ◌/◌, ◌%◌, ◌==◌, ◌&&◌, min, Bool, true, false}
use Rattle.std.specs.Prelude.{List, [], ◌∷◌, length}
use Rattle.std.specs.Prelude.{None, nat_le, nat_lt, if◌then◌else◌, unwrap_or}
use Rattle.std.specs.Fmt.{decimal}
use Rattle.unicode_segmentation.specs.Grapheme.{graphemes}
use Rattle.ratatui_core.specs.{Layout.Rect, Style.new_style}
use Rattle.ratatui_core.specs.{Style.with_modifier, Style.modifier_of}
use Rattle.ratatui_core.specs.Buffer.{BufferData, text_pieces}
use Rattle.rtui_drawing.specs.declared.cut.Cut.TheVariants.{First, After, Last, Rows}
use Rattle.rtui_drawing.specs.Drawings.{Drawing, nothing, over, ◌before◌, draw_if, put_style, put_pieces}
use Rattle.rtui_inside.specs.Inside.{DrawsStateInside, LeavesInside, IsShortInside}
use Rattle.text_area.specs.Lines.{feeds, nth_start, nth_line, first_line, last_line}
use Rattle.text_area.specs.Areas.{AreaData, area_text, area_before, area_after, area_cursor}
use Rattle.widget_area.specs.declared.view.AreaView.{AreaView}
use Rattle.widget_area.specs.declared.plan.Plan.{Plan}
use Rattle.widget_area.specs.declared.widget.TextAreaWidget.{TextAreaWidget}
use Rattle.widget_area.specs.Columns.{columns_of_grapheme, past}
use Rattle.widget_area.specs.Wraps.{rows_of_columns}
use Rattle.widget_area.specs.Windows.{end_column, plan_of, next_view, cursor_forgotten}

-- a widget of a text without a box and numbers, in which nothing has a style but what is selected, which is
-- reversed; a tab leads to a multiple of eight columns
pub record IsNewWidget (text : AreaData) (w : TextAreaWidget) : Type 0 where
  pub text_is : w.text.now ≡ text
  pub no_box : w.block ≡ None
  pub unstyled : w.style ≡ new_style
  pub no_row_style : w.cursor_line_style ≡ new_style
  pub selection : w.selection_style ≡ with_modifier (modifier_of 64) new_style
  pub no_numbers : w.line_numbers ≡ None
  pub no_placeholder : w.placeholder.now ≡ []
  pub tabs : w.tab ≡ 8
  pub no_wrap : w.wraps ≡ false

-- a byte of the text that is selected
abbrev pub is_selected : Plan → ℕ → Bool
is_selected p byte = nat_le p.from byte && nat_lt byte p.to

-- A grapheme that begins in a column of its line, and at a byte of the text, in a row of so many columns. It
-- stands there whole or not at all, and where it doesn't nothing is put. If it is selected, the style of the
-- selection lies over all of its columns that are in view.
abbrev pub grapheme_drawing : TextAreaWidget → Plan → ℕ → ℕ → ℕ → List ℕ → Drawing
grapheme_drawing w p room column byte g =
    let x = column - p.left in
    let n = columns_of_grapheme w.tab column g - (p.left - column) in
    over (After x) (over (First n) (draw_if (is_selected p byte) (put_style w.selection_style))
    before draw_if (nat_le p.left column) (put_pieces (text_pieces (room - x) new_style g)))

-- graphemes of a line one after the other, the first of which begins in a column and at a byte, up to the
-- row's end
abbrev pub graphemes_drawing : TextAreaWidget → Plan → ℕ → ℕ → ℕ → List (List ℕ) → Drawing
graphemes_drawing w p room column byte [] = nothing
graphemes_drawing w p room column byte (g ∷ gs) =
    draw_if (nat_lt (column - p.left) room) (grapheme_drawing w p room column byte g
    before graphemes_drawing w p room (past column (columns_of_grapheme w.tab column g))
    (past byte (length g)) gs)

-- The line of a number. The cursor's line is read in two parts, before the cursor and after it, as each is
-- edited: so the cursor stands where a grapheme begins.
abbrev pub front_text : TextAreaWidget → Plan → ℕ → List ℕ
front_text w p i = if i == p.row then last_line (area_before w.text.now) else nth_line i (area_text w.text.now)

abbrev pub back_text : TextAreaWidget → Plan → ℕ → List ℕ
back_text w p i = if i == p.row then first_line (area_after w.text.now) else []

abbrev pub line_drawing : TextAreaWidget → Plan → ℕ → ℕ → Drawing
line_drawing w p room i =
    graphemes_drawing w p room 0 (nth_start i (area_text w.text.now)) (graphemes true (front_text w p i))
    before graphemes_drawing w p room p.column (area_cursor w.text.now) (graphemes true (back_text w p i))

-- the number of a line, from 1 on, at the right of its columns, as far as there are some
abbrev pub number_drawing : TextAreaWidget → Plan → ℕ → ℕ → Drawing
number_drawing w p width i =
    let text = decimal (past i 1) in
    let n = min (length text) (min (p.numbers - 1) width) in
    over (First (p.numbers - 1)) (over (Last (length text))
    (put_pieces (text_pieces n (unwrap_or w.line_numbers new_style) text)))

-- a row with the line of a number: the style of the cursor's line, if it is that, the number, and the line
abbrev pub numbered_row_drawing : TextAreaWidget → Plan → ℕ → ℕ → Drawing
numbered_row_drawing w p width i =
    draw_if (i == p.row) (put_style w.cursor_line_style)
    before number_drawing w p width i
    before over (After p.numbers) (line_drawing w p (width - p.numbers) i)

-- so many rows from one on, as far as there are lines
abbrev pub numbered_rows_drawing : TextAreaWidget → Plan → ℕ → ℕ → ℕ → Drawing
numbered_rows_drawing w p width k zero = nothing
numbered_rows_drawing w p width k (suc n) =
    draw_if (nat_le (p.top + k) (feeds (area_text w.text.now))) (over (Rows k 1) (numbered_row_drawing w p width (p.top + k))
    before numbered_rows_drawing w p width (k + 1) n)

-- The same where lines are wrapped. Rows are counted from the first one of the view's first line on, and some
-- of them are above the view.
-- a column of a line that begins in a row: its row
abbrev pub wrapped_row : Plan → ℕ → ℕ → ℕ
wrapped_row p begin column = past begin (column / p.stride)

-- the part of a line that stands in one row with a column
abbrev pub turned : Plan → ℕ → Plan
turned p column = record p { left = column - column % p.stride }

-- a grapheme, in the row in which it begins; above the view there is none
abbrev pub wrapped_grapheme_drawing : TextAreaWidget → Plan → ℕ → ℕ → ℕ → ℕ → List ℕ → Drawing
wrapped_grapheme_drawing w p width begin column byte g =
    let row = wrapped_row p begin column in
    draw_if (nat_le p.above row) (over (Rows (row - p.above) 1) (over (After p.numbers)
    (grapheme_drawing w (turned p column) (width - p.numbers) column byte g)))

-- graphemes of a line one after the other, up to the last row in view
abbrev pub wrapped_graphemes_drawing : TextAreaWidget → Plan → Rect → ℕ → ℕ → ℕ → List (List ℕ) → Drawing
wrapped_graphemes_drawing w p r begin column byte [] = nothing
wrapped_graphemes_drawing w p r begin column byte (g ∷ gs) =
    draw_if (nat_lt (wrapped_row p begin column - p.above) r.height)
    (wrapped_grapheme_drawing w p r.width begin column byte g
    before wrapped_graphemes_drawing w p r begin (past column (columns_of_grapheme w.tab column g))
    (past byte (length g)) gs)

-- the row after the line of a number, which begins in a row
abbrev pub row_after_line : TextAreaWidget → Plan → ℕ → ℕ → ℕ
row_after_line w p begin i = past begin (rows_of_columns p.stride (end_column w p.row p.column i))

-- the row in which the line n further begins, if one begins in a row
abbrev pub row_past : TextAreaWidget → Plan → ℕ → ℕ → ℕ → ℕ
row_past w p begin i zero = begin
row_past w p begin i (suc n) = row_past w p (row_after_line w p begin i) (i + 1) n

-- the style of the cursor's line, over all of its rows that are in view
abbrev pub row_style_drawing : TextAreaWidget → Plan → Rect → ℕ → ℕ → Drawing
row_style_drawing w p r begin i =
    let y = begin - p.above in
    over (Rows y (min (row_after_line w p begin i - p.above - y) r.height))
    (draw_if (i == p.row) (put_style w.cursor_line_style))

-- the number of a line that begins in a row, in that row, unless it is above the view
abbrev pub first_number_drawing : TextAreaWidget → Plan → ℕ → ℕ → ℕ → Drawing
first_number_drawing w p width begin i =
    draw_if (nat_le p.above begin) (over (Rows (begin - p.above) 1) (number_drawing w p width i))

-- the graphemes of the line
abbrev pub wrapped_text_drawing : TextAreaWidget → Plan → Rect → ℕ → ℕ → Drawing
wrapped_text_drawing w p r begin i =
    wrapped_graphemes_drawing w p r begin 0 (nth_start i (area_text w.text.now)) (graphemes true (front_text w p i))
    before wrapped_graphemes_drawing w p r begin p.column (area_cursor w.text.now) (graphemes true (back_text w p i))

-- a line that begins in a row: its style, its number, and its graphemes
abbrev pub wrapped_line_drawing : TextAreaWidget → Plan → Rect → ℕ → ℕ → Drawing
wrapped_line_drawing w p r begin i =
    row_style_drawing w p r begin i
    before first_number_drawing w p r.width begin i
    before wrapped_text_drawing w p r begin i

-- so many lines from one on, which begins in a row, as far as there are lines and rows
abbrev pub wrapped_lines_drawing : TextAreaWidget → Plan → Rect → ℕ → ℕ → ℕ → Drawing
wrapped_lines_drawing w p r begin i zero = nothing
wrapped_lines_drawing w p r begin i (suc n) =
    draw_if (nat_le i (feeds (area_text w.text.now)) && nat_lt (begin - p.above) r.height)
    (wrapped_line_drawing w p r begin i
    before wrapped_lines_drawing w p r (row_after_line w p begin i) (i + 1) n)

-- a text that is empty
abbrev pub is_empty : List ℕ → Bool
is_empty [] = true
is_empty (b ∷ bs) = false

-- what is shown where there is no text
abbrev pub placeholder_drawing : TextAreaWidget → Plan → ℕ → Drawing
placeholder_drawing w p width =
    over (Rows 0 1) (over (After p.numbers) (draw_if (is_empty (area_text w.text.now))
    (put_pieces (text_pieces (width - p.numbers) w.placeholder_style w.placeholder.now))))

-- the lines in view, wrapped or not
abbrev pub lines_drawing : Bool → TextAreaWidget → Plan → Rect → Drawing
lines_drawing true w p r = wrapped_lines_drawing w p r 0 p.top r.height
lines_drawing false w p r = numbered_rows_drawing w p r.width 0 r.height

-- all that a plan shows in an area
abbrev pub planned_drawing : TextAreaWidget → Plan → Rect → Drawing
planned_drawing w p r = lines_drawing w.wraps w p r before placeholder_drawing w p r.width

-- what is drawn in an area, if the view was this one before
abbrev pub area_drawing : TextAreaWidget → AreaView → Rect → Drawing
area_drawing w v r = planned_drawing w (plan_of w v r) r

-- A text area over the part of an area that a buffer has: its style, its box, and inside, if there are cells,
-- its lines in view; the view follows the cursor. Nothing outside the area changes. Without cells inside only
-- the cursor's place is forgotten.
abbrev pub RendersArea : TextAreaWidget → AreaView → AreaView → Rect → BufferData → BufferData → Type 0
RendersArea w v = DrawsStateInside w.style w.block (area_drawing w) (next_view w) (cursor_forgotten v)

-- what a refusal leaves: the view stays, and the cursor's place is forgotten; if the box takes no memory, it
-- stands, and so does all before one grapheme
pub record LeavesArea (w : TextAreaWidget) (v u : AreaView) (area : Rect) (old new : BufferData) : Type 0 where
  pub view : u ≡ cursor_forgotten v
  pub drawn : LeavesInside w.style w.block (area_drawing w (cursor_forgotten v)) area old new

-- a text area takes no memory if its box takes none and each grapheme in view is short
abbrev pub IsShortArea : TextAreaWidget → AreaView → Rect → BufferData → Type 0
IsShortArea w v = IsShortInside w.block (area_drawing w (cursor_forgotten v))
