-- Which part of a text is shown.
use Rattle.std.specs.Prelude.{ℕ, ◌+◌, ◌-◌, ◌/◌, ◌%◌, ◌==◌, min, max, length, Option, Some, None, nat_lt, true, if◌then◌else◌}
use Rattle.std.specs.Fmt.{decimal}
use Rattle.ratatui_core.specs.{Layout.Rect, Buffer.position_of}
use Rattle.unicode_segmentation.specs.Grapheme.{graphemes}
use Rattle.text_area.specs.Lines.{feeds, nth_line, first_line, last_line}
use Rattle.text_area.specs.Areas.{area_text, area_before, area_after, selection}
use Rattle.widget_area.specs.declared.view.AreaView.{AreaView}
use Rattle.widget_area.specs.declared.plan.Plan.{Plan}
use Rattle.widget_area.specs.declared.widget.TextAreaWidget.{TextAreaWidget}
use Rattle.text_places.specs.declared.place.Place.{Place}
use Rattle.text_places.specs.Places.{text_place, place_there, rows_between, view_begin}
use Rattle.widget_area.specs.Columns.{column_past, column_after_line}
use Rattle.widget_area.specs.Wraps.{stride_of, rows_of_columns}

-- of all windows of so many places that have a place in them, the one that begins nearest to where it began
abbrev pub window_start : ℕ → ℕ → ℕ → ℕ
window_start first place room = max (min first place) (place - (room - 1))

-- how many columns the numbers of the lines take, with a blank after them, if there are to be any: as many as
-- the last number has digits; none if that leaves no column for the text
abbrev pub gutter_columns : TextAreaWidget → ℕ → ℕ
gutter_columns w width =
    columns_if w.line_numbers (length (decimal (feeds (area_text w.text.now) + 1)) + 1) width
  where
    columns_if : {X : Type 0} → Option X → ℕ → ℕ → ℕ
    columns_if None n width = 0
    columns_if (Some style) n width = if nat_lt n width then n else 0

-- the line of the cursor, and its column there
abbrev pub cursor_row : TextAreaWidget → ℕ
cursor_row w = feeds (area_before w.text.now)

abbrev pub cursor_column : TextAreaWidget → ℕ
cursor_column w = column_after_line w.tab (last_line (area_before w.text.now))

-- the column after its line, if the cursor is in a column: the line is read in two parts, before the cursor
-- and after it, as each is edited
abbrev pub column_after_rest : TextAreaWidget → ℕ → ℕ
column_after_rest w column = column_past w.tab column (graphemes true (first_line (area_after w.text.now)))

-- the column after a line, if the cursor is in this row and in this column
abbrev pub end_column : TextAreaWidget → ℕ → ℕ → ℕ → ℕ
end_column w row column i =
    if i == row then column_after_rest w column else column_after_line w.tab (nth_line i (area_text w.text.now))

-- What is shown in an area, if the view was this one before: the view moves only as far as the cursor wants
-- it. A line in each row:
abbrev pub plain_plan : TextAreaWidget → AreaView → Rect → Plan
plain_plan w v r =
    let n = gutter_columns w r.width in
    let top = window_start v.top (cursor_row w) r.height in
    let left = window_start v.left (cursor_column w) (r.width - n) in record {
      top = top;
      above = v.row;
      left = left;
      stride = r.width - n;
      numbers = n;
      row = cursor_row w;
      column = cursor_column w;
      x = cursor_column w - left;
      y = cursor_row w - top;
      from = (selection w.text.now).0;
      to = (selection w.text.now).1;
    }

-- how many rows each line takes, if lines go on in the next rows
abbrev pub wrapped_rows : TextAreaWidget → ℕ → ℕ → ℕ
wrapped_rows w stride i = rows_of_columns stride (end_column w (cursor_row w) (cursor_column w) i)

-- the cursor's place: the row of its column, or the last one of its line if it stands after that
abbrev pub cursor_place : TextAreaWidget → ℕ → Place
cursor_place w stride = place_there (wrapped_rows w stride) (text_place (cursor_row w) (cursor_column w / stride))

-- the place with which the view begins
abbrev pub wrapped_place : TextAreaWidget → AreaView → ℕ → ℕ → Place
wrapped_place w v stride height =
    view_begin (wrapped_rows w stride) (text_place v.top v.row) (cursor_place w stride) height

-- And lines that go on in the next rows; after a full row the cursor stands in the last column.
abbrev pub wrapped_plan : TextAreaWidget → AreaView → Rect → Plan
wrapped_plan w v r =
    let n = gutter_columns w r.width in
    let stride = stride_of (r.width - n) in
    let begin = wrapped_place w v stride r.height in
    let cursor = cursor_place w stride in record {
      top = begin.line;
      above = begin.row;
      left = v.left;
      stride = stride;
      numbers = n;
      row = cursor_row w;
      column = cursor_column w;
      x = if nat_lt cursor.row (cursor_column w / stride) then r.width - n - 1 else cursor_column w % stride;
      y = rows_between (wrapped_rows w stride) begin cursor;
      from = (selection w.text.now).0;
      to = (selection w.text.now).1;
    }

abbrev pub plan_of : TextAreaWidget → AreaView → Rect → Plan
plan_of w v r = if w.wraps then wrapped_plan w v r else plain_plan w v r

-- the view of a plan in an area, with the cursor's place on the screen
abbrev pub view_of : Plan → Rect → AreaView
view_of p r = record {
  top = p.top;
  row = p.above;
  left = p.left;
  cursor = Some (position_of (r.x + p.numbers + p.x, r.y + p.y));
}

-- the view after a rendering
abbrev pub next_view : TextAreaWidget → AreaView → Rect → AreaView
next_view w v r = view_of (plan_of w v r) r

-- a view whose cursor is not known to stand anywhere
abbrev pub cursor_forgotten : AreaView → AreaView
cursor_forgotten v = record v { cursor = None }
