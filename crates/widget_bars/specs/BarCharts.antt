-- A bar chart: of which parts it is made, and what it makes of a buffer.
use Rattle.std.specs.Prelude.{◌≡◌, ℕ, Bool, ◌+◌, ◌-◌, ◌*◌, ◌/◌, ◌==◌, ◌&&◌, ◌||◌, nat_lt, nat_le, IfSome}
use Rattle.std.specs.Prelude.{not, min, max, List, [], ◌∷◌, ◌++◌, length, take, decimal, Option, Some, None}
use Rattle.std.specs.Prelude.{is_some, if◌then◌else◌, unwrap_or, All, ◌≤◌}
use Rattle.std.specs.{List.list_any, Borrow.Bor}
use Rattle.ratatui_core.specs.Layout.{Rect, Position}
use Rattle.ratatui_core.specs.Style.{Style, new_style, patch}
use Rattle.ratatui_core.specs.Symbols.{bar_texts, bar_levels}
use Rattle.ratatui_core.specs.Text.{LineData, raw_line, EachGrapheme, TakesOneColumn, EachLineGrapheme}
use Rattle.ratatui_core.specs.declared.layout.HorizontalAlignment.{HorizontalAlignment}
use Rattle.ratatui_core.specs.declared.layout.HorizontalAlignment.TheVariants.{Left, Center, Right}
use Rattle.ratatui_core.specs.Buffer.{BufferData, Cell, styled, with_symbol, text_columns, text_pieces, text_width}
use Rattle.ratatui_core.specs.Buffer.{IsShort}
use Rattle.ratatui_core.specs.declared.layout.Direction.{Direction}
use Rattle.ratatui_core.specs.declared.layout.Direction.TheVariants.{Horizontal, Vertical}
use Rattle.ratatui_core.specs.declared.symbols.bar.Set.{Set as BarSet}
use Rattle.widget_boxes.specs.Titles.{title_width}
use Rattle.rtui_drawing.specs.{declared.cut.Cut.Cut, Cuts.cut_from}
use Rattle.rtui_drawing.specs.declared.cut.Cut.TheVariants.{First, After, Middle, Rows}
use Rattle.rtui_drawing.specs.Drawings.{Drawing, nothing, over, ◌before◌, draw_if, put_style, put_line, put_pieces}
use Rattle.rtui_drawing.specs.Drawings.{put_change}
use Rattle.rtui_inside.specs.Inside.{DrawsInside, LeavesInside, IsShortInside}
use Rattle.widget_sparkline.specs.Levels.{eighths_of_value, level_mark}
use Rattle.widget_bars.specs.{declared.group.Bar.Bar, declared.group.BarGroup.BarGroup}
use Rattle.widget_bars.specs.{declared.chart.BarChart.BarChart}
use Rattle.widget_bars.specs.BarAreas.{cells_along, bar_cut, behind_cut, beside_labels}

-- a bar of this value, with a label if there is one
abbrev pub new_bar : ℕ → Option LineData → Bar
new_bar value label =
    record { value = value; label = label; style = new_style; value_style = new_style; text_value = None }

-- a bar of a plain label and a value
abbrev pub raw_bar : Bor (List ℕ) × ℕ → Bar
raw_bar bar = new_bar bar.1 (Some (raw_line bar.0.now))

-- a chart of these groups in a direction: bars of one cell, a cell apart, without box, labels' and values'
-- styles
pub record IsNewBarChartIn (d : Direction) (groups : List BarGroup) (c : BarChart) : Type 0 where
  pub groups_are : c.groups.items ≡ groups
  pub no_box : c.block ≡ None
  pub one_wide : c.bar_width ≡ 1
  pub one_apart : c.bar_gap ≡ 1
  pub no_group_gap : c.group_gap ≡ 0
  pub levels : bar_texts c.bar_set ≡ bar_levels
  pub unstyled_bars : c.bar_style ≡ new_style
  pub unstyled_values : c.value_style ≡ new_style
  pub unstyled_labels : c.label_style ≡ new_style
  pub unstyled : c.style ≡ new_style
  pub by_values : c.max ≡ None
  pub way : c.direction ≡ d

abbrev pub IsNewBarChart : List BarGroup → BarChart → Type 0
IsNewBarChart = IsNewBarChartIn Vertical

abbrev pub IsLyingBarChart : List BarGroup → BarChart → Type 0
IsLyingBarChart = IsNewBarChartIn Horizontal

-- groups with one more after them, if it has bars
abbrev pub with_group : List BarGroup → BarGroup → List BarGroup
with_group groups group = if length group.bars.items == 0 then groups else groups ++ (group ∷ [])

-- the greatest value of bars and of groups, and the one that is as high as the chart: at least 1
abbrev pub greatest_bar : List Bar → ℕ
greatest_bar [] = 0
greatest_bar (bar ∷ bars) = max bar.value (greatest_bar bars)

abbrev pub greatest_group : List BarGroup → ℕ
greatest_group [] = 0
greatest_group (group ∷ groups) = max (greatest_bar group.bars.items) (greatest_group groups)

abbrev pub greatest_of_chart : BarChart → ℕ
greatest_of_chart c = max (unwrap_or c.max (greatest_group c.groups.items)) 1

-- a cell of a bar that is so many eighths of a cell high
abbrev pub chart_cell : BarSet → Rect → Style → ℕ → Position → Cell → Cell
chart_cell set r style eighths p c =
    styled style (level_mark set r eighths p c)

-- the rows of labels under the bars: one for those of bars if there are two rows, and one for those of
-- groups if there is one row more
abbrev pub has_bar_label : Bar → Bool
has_bar_label bar = is_some bar.label

abbrev pub has_labelled_bar : BarGroup → Bool
has_labelled_bar group = list_any has_bar_label group.bars.items

abbrev pub has_bar_labels : BarChart → ℕ → Bool
has_bar_labels c height = nat_lt 1 height && list_any has_labelled_bar c.groups.items

abbrev pub bar_label_rows : BarChart → ℕ → ℕ
bar_label_rows c height = if has_bar_labels c height then 1 else 0

abbrev pub has_label : BarGroup → Bool
has_label group = is_some group.label

abbrev pub has_group_labels : BarChart → ℕ → Bool
has_group_labels c height = nat_lt 1 (height - bar_label_rows c height) && list_any has_label c.groups.items

abbrev pub group_label_rows : BarChart → ℕ → ℕ
group_label_rows c height = if has_group_labels c height then 1 else 0

-- the rows of the bars themselves
abbrev pub bar_rows : BarChart → ℕ → ℕ
bar_rows c height = height - bar_label_rows c height - group_label_rows c height

-- no symbol of bars takes memory
abbrev pub HasShortBars : BarSet → Type 0
HasShortBars set = All IsShort (bar_texts set)

-- cells of bars that are changed so
abbrev pub filled_by : BarSet → (Position → Cell → Cell) → Drawing
filled_by set f = put_change f (λ _ _. HasShortBars set)

-- a line in a style, over all of an area
abbrev pub styled_line : Style → LineData → Drawing
styled_line style line = put_style style before put_line line

-- the label of a bar in the middle of its columns, if it has one
abbrev pub bar_label : Style → Option LineData → Drawing
bar_label style None = nothing
bar_label style (Some line) = over (Middle (title_width line)) (styled_line style line)

-- the text of a bar's value
abbrev pub text_of_bar : ℕ → Option (Bor (List ℕ)) → List ℕ
text_of_bar value None = decimal value
text_of_bar value (Some text) = text.now

-- a text is written if it is narrower than its bar, or as wide and the bar fills a cell; that of 0 isn't
abbrev pub is_written : ℕ → ℕ → ℕ → ℕ → Bool
is_written value columns width eighths =
    not (value == 0) && (nat_lt columns width || ((columns == width) && nat_le 8 eighths))

-- a text in the middle of a row of so many columns
abbrev pub middle_text : Style → List ℕ → ℕ → Drawing
middle_text style text width =
    let n = min (text_columns text) 65535 in
    over (Middle n) (put_pieces (text_pieces (min n width) style text))

-- how many eighths of a cell a bar of a chart is high
abbrev pub chart_eighths : BarChart → Bar → ℕ → ℕ
chart_eighths c bar height = eighths_of_value bar.value (greatest_of_chart c) (bar_rows c height)

-- a vertical bar in its columns of an area: its cells, its label under them if there is a row for it, and its
-- value in their last row
abbrev pub tall_cells : BarChart → Bar → Rect → Drawing
tall_cells c bar r =
    let rows = Rows 0 (bar_rows c r.height) in
    let style = patch c.bar_style bar.style in
    let eighths = chart_eighths c bar r.height in
    over rows (filled_by c.bar_set (chart_cell c.bar_set (cut_from rows r) style eighths))

abbrev pub tall_label : BarChart → Bar → Rect → Drawing
tall_label c bar r =
    over (Rows (r.height - 1 - group_label_rows c r.height) 1)
    (draw_if (has_bar_labels c r.height) (bar_label c.label_style bar.label))

abbrev pub tall_value : BarChart → Bar → Rect → Drawing
tall_value c bar r =
    let text = text_of_bar bar.value bar.text_value in
    let written = is_written bar.value (text_columns text) r.width (chart_eighths c bar r.height) in
    over (Rows (bar_rows c r.height - 1) 1)
    (draw_if written (middle_text (patch c.value_style bar.value_style) text r.width))

abbrev pub tall_bar : BarChart → Bar → Rect → Drawing
tall_bar c bar r = tall_cells c bar r before tall_label c bar r before tall_value c bar r

-- the columns of the labels at the left of horizontal bars: as many as the widest label has
abbrev pub bar_label_width : Option LineData → ℕ
bar_label_width None = 0
bar_label_width (Some line) = title_width line

abbrev pub widest_bar_label : List Bar → ℕ
widest_bar_label [] = 0
widest_bar_label (bar ∷ bars) = max (bar_label_width bar.label) (widest_bar_label bars)

abbrev pub widest_label : List BarGroup → ℕ
widest_label [] = 0
widest_label (group ∷ groups) = max (widest_bar_label group.bars.items) (widest_label groups)

abbrev pub columns_of_labels : Direction → List BarGroup → ℕ
columns_of_labels Horizontal groups = widest_label groups
columns_of_labels Vertical groups = 0

abbrev pub label_columns : BarChart → ℕ
label_columns c = columns_of_labels c.direction c.groups.items

-- how many cells a horizontal bar fills, if the greatest value fills so many
abbrev pub filled_cells : ℕ → ℕ → ℕ → ℕ
filled_cells value greatest width = min (value * width / greatest) width

-- a cell of a horizontal bar that fills so many: full, or empty after them
abbrev pub long_cell : BarSet → Rect → Style → ℕ → Position → Cell → Cell
long_cell set r style n p c =
    styled style (with_symbol (if nat_lt (p.x - r.x) n then set.full.now else set.empty.now) c)

-- a line, if there is one
abbrev pub line_if : Option LineData → Drawing
line_if None = nothing
line_if (Some line) = put_line line

-- a text from the left of a row on, in the style of its cells, and a style over its columns among the first n
abbrev pub value_over : Style → List ℕ → ℕ → ℕ → Drawing
value_over style text n width =
    put_pieces (text_pieces width new_style text)
    before over (First (min n (text_columns text))) (put_style style)

-- the middle row of an area; of an even number of rows the lower one of the two in the middle
abbrev pub middle_row : Rect → Cut
middle_row r = Rows (r.height / 2) 1

-- how many cells a horizontal bar of a chart fills
abbrev pub long_filled : BarChart → Bar → Rect → ℕ
long_filled c bar r =
    filled_cells bar.value (greatest_of_chart c) (cut_from (beside_labels (label_columns c)) r).width

-- a horizontal bar in its rows of an area: its cells right of the labels, its label in the middle row, as it
-- is styled and aligned itself, and its value in the middle row from the left on, in its own style as far as
-- the bar goes; no value without columns
abbrev pub long_cells : BarChart → Bar → Rect → Drawing
long_cells c bar r =
    let bars = beside_labels (label_columns c) in
    let style = patch c.bar_style bar.style in
    let filled = long_filled c bar r in
    over bars (filled_by c.bar_set (long_cell c.bar_set (cut_from bars r) style filled))

abbrev pub long_label : BarChart → Bar → Rect → Drawing
long_label c bar r = over (First (label_columns c)) (over (middle_row r) (line_if bar.label))

abbrev pub long_value : BarChart → Bar → Rect → Drawing
long_value c bar r =
    let bars = beside_labels (label_columns c) in
    let width = (cut_from bars r).width in
    let text = text_of_bar bar.value bar.text_value in
    let value = value_over (patch c.value_style bar.value_style) text (long_filled c bar r) width in
    over bars (over (middle_row r) (draw_if (nat_lt 0 width) value))

abbrev pub long_bar : BarChart → Bar → Rect → Drawing
long_bar c bar r = long_cells c bar r before long_label c bar r before long_value c bar r

-- a bar, as its chart's direction says
abbrev pub bar_in : Direction → BarChart → Bar → Rect → Drawing
bar_in Vertical = tall_bar
bar_in Horizontal = long_bar

-- how many columns it is from one bar to the next, or rows
abbrev pub bar_step : BarChart → ℕ
bar_step c = min (c.bar_width + c.bar_gap) 65535

-- those of a group's bars that fit into an area
abbrev pub fitting_count : BarChart → ℕ → ℕ
fitting_count c width = (width + c.bar_gap) / (c.bar_width + c.bar_gap)

abbrev pub shown_bars : BarChart → BarGroup → Rect → List Bar
shown_bars c group r = take (fitting_count c (cells_along c.direction r)) group.bars.items

-- bars from the left or the top of an area on; what is left after them; and a drawing there
abbrev pub bars_from : BarChart → Rect → List Bar → Drawing
bars_from c r [] = nothing
bars_from c r (bar ∷ bars) =
    let own = bar_cut c.direction c.bar_width in
    let behind = behind_cut c.direction (bar_step c) in
    over own (bar_in c.direction c bar (cut_from own r))
    before over behind (bars_from c (cut_from behind r) bars)

abbrev pub after_bars : BarChart → Rect → List Bar → Rect
after_bars c r [] = r
after_bars c r (bar ∷ bars) = after_bars c (cut_from (behind_cut c.direction (bar_step c)) r) bars

abbrev pub behind_bars : BarChart → List Bar → Drawing → Drawing
behind_bars c [] d = d
behind_bars c (bar ∷ bars) d = over (behind_cut c.direction (bar_step c)) (behind_bars c bars d)

-- how far from the left a label of n columns stands in so many, aligned as it says
abbrev pub label_indent : Option HorizontalAlignment → ℕ → ℕ → ℕ
label_indent None width n = 0
label_indent (Some Left) width n = 0
label_indent (Some Center) width n = (width - n) / 2
label_indent (Some Right) width n = width - n

-- the label of a group under its bars, aligned in so many columns; it may be longer
abbrev pub group_label : Style → Option LineData → ℕ → Drawing
group_label style None width = nothing
group_label style (Some line) width =
    let n = title_width line in
    over (After (label_indent line.alignment width n)) (over (First n) (styled_line style line))

-- how many columns bars take, without the gap after the last one, or rows; at most 65535
abbrev pub bars_columns : BarChart → ℕ → ℕ
bars_columns c n = min (n * (c.bar_width + c.bar_gap) - c.bar_gap) 65535

-- the label of a group of n bars: under vertical ones in the last row, if it is one for labels; and under
-- horizontal ones in the row after them, if groups are apart and there is one
abbrev pub label_of : Direction → BarChart → BarGroup → ℕ → Rect → Drawing
label_of Vertical c group n r =
    let label = group_label c.label_style group.label (bars_columns c n) in
    draw_if (has_group_labels c r.height && nat_lt 0 n) (over (Rows (r.height - 1) 1) label)
label_of Horizontal c group n r =
    let bars = beside_labels (label_columns c) in
    let label = group_label c.label_style group.label (cut_from bars r).width in
    draw_if ((nat_lt 0 c.group_gap && nat_lt (bars_columns c n) r.height) && nat_lt 0 n)
    (over bars (over (Rows (bars_columns c n) 1) label))

-- a group: as many of its bars as fit, and its label if there is a row for it
abbrev pub group_drawing : BarChart → BarGroup → Rect → Drawing
group_drawing c group r =
    let bars = shown_bars c group r in
    bars_from c r bars before label_of c.direction c group (length bars) r

-- the groups of a chart from the left or the top of an area on
abbrev pub groups_from : BarChart → Rect → List BarGroup → Drawing
groups_from c r [] = nothing
groups_from c r (group ∷ groups) =
    let bars = shown_bars c group r in
    let gap = behind_cut c.direction c.group_gap in
    group_drawing c group r
    before behind_bars c bars (over gap (groups_from c (cut_from gap (after_bars c r bars)) groups))

-- what a chart draws in an area; bars of no columns aren't shown
abbrev pub chart_drawing : BarChart → Rect → Drawing
chart_drawing c r = draw_if (not (c.bar_width == 0)) (groups_from c r c.groups.items)

-- A bar chart over the part of an area that a buffer has: its style, its box, and inside its groups. Nothing
-- outside the area changes.
abbrev pub RendersBarChart : BarChart → Rect → BufferData → BufferData → Type 0
RendersBarChart c = DrawsInside c.style c.block (chart_drawing c)

-- what a refusal leaves, if the box takes no memory: style and box stand, and all before one thing
abbrev pub LeavesBarChart : BarChart → Rect → BufferData → BufferData → Type 0
LeavesBarChart c = LeavesInside c.style c.block (chart_drawing c)

-- neither the box nor what is drawn inside takes memory
abbrev pub IsShortBarChart : BarChart → Rect → BufferData → Type 0
IsShortBarChart c = IsShortInside c.block (chart_drawing c)

-- the texts of a bar, of a group and of a chart, and the symbols of its bars, take one column for each
-- grapheme
pub record HasNarrowBarTexts (bar : Bar) : Type 0 where
  pub label : IfSome bar.label (EachLineGrapheme TakesOneColumn)
  pub value : EachGrapheme TakesOneColumn (text_of_bar bar.value bar.text_value)

pub record HasNarrowGroupTexts (group : BarGroup) : Type 0 where
  pub label : IfSome group.label (EachLineGrapheme TakesOneColumn)
  pub bars : All HasNarrowBarTexts group.bars.items

pub record HasNarrowGroups (c : BarChart) : Type 0 where
  pub levels : All (λ symbol. text_width symbol ≤ 1) (bar_texts c.bar_set)
  pub groups : All HasNarrowGroupTexts c.groups.items
