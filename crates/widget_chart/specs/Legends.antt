-- The legend of a chart: where it stands, and what it draws.
use Rattle.std.specs.Prelude.{ℕ, Bool, ◌+◌, ◌-◌, ◌*◌, ◌/◌, ◌&&◌, nat_lt, nat_le, min, max, List}
use Rattle.std.specs.Prelude.{[], ◌∷◌, length, Option, Some, None, if◌then◌else◌}
use Rattle.ratatui_core.specs.{Layout.Rect, Text.LineData, Style.Style, Style.new_style}
use Rattle.ratatui_core.specs.declared.layout.Constraint.{Constraint}
use Rattle.ratatui_core.specs.declared.layout.Constraint.TheVariants.{Min, Max, Length}
use Rattle.ratatui_core.specs.declared.layout.Constraint.TheVariants.{Percentage, Ratio, Fill}
use Rattle.rtui_symbols.specs.declared.line.TheConstants as line_symbol
use Rattle.rtui_drawing.specs.Cuts.{cut_from}
use Rattle.rtui_drawing.specs.declared.cut.Cut.TheVariants.{First, After, Last, BeforeLast, Rows, Below}
use Rattle.rtui_drawing.specs.Drawings.{Drawing, nothing, over, ◌before◌, put_style, put_line}
use Rattle.rtui_drawing.specs.Drawings.{draw_if}
use Rattle.widget_chart.specs.declared.{dataset.Dataset.Dataset, legend.LegendPosition.LegendPosition}
use Rattle.widget_chart.specs.declared.legend.LegendPosition.TheVariants.{Top, TopRight, TopLeft}
use Rattle.widget_chart.specs.declared.legend.LegendPosition.TheVariants.{Left as AtLeft, Right as AtRight}
use Rattle.widget_chart.specs.declared.legend.LegendPosition.TheVariants.{Bottom, BottomRight, BottomLeft}
use Rattle.widget_chart.specs.{ChartLayouts.widest_line, ChartParts.ruled}

-- the names of data sets
abbrev pub with_name : Option LineData → List LineData → List LineData
with_name None names = names
with_name (Some line) names = line ∷ names

abbrev pub legend_names : List Dataset → List LineData
legend_names [] = []
legend_names (d ∷ ds) = with_name d.name (legend_names ds)

-- how many columns or rows a constraint leaves of so many: a number of them, a share to the nearest whole
-- number, the greater one of two as near, or all
abbrev pub room_in : Constraint → ℕ → ℕ
room_in (Min n) cells = cells
room_in (Max n) cells = min n cells
room_in (Length n) cells = min n cells
room_in (Percentage n) cells = min ((2 * cells * n + 100) / 200) cells
room_in (Ratio m n) cells = min ((2 * cells * m + max n 1) / (2 * max n 1)) cells
room_in (Fill n) cells = cells

-- a legend of so many columns and rows fits into the area of the dots beside titles of so many columns
abbrev pub legend_fits : Constraint → Constraint → ℕ → ℕ → Rect → ℕ → ℕ → Bool
legend_fits across down w h g tx ty =
    nat_le w (room_in across g.width) && nat_le h (room_in down g.height)
    && nat_le (h + min tx 1 + min ty 1) g.height

-- where it stands, counted from the corner of the dots' area: tx columns of the last row have a title, from the
-- right, and ty of the first one, from the left; it gives way to a title that it would cover
abbrev pub legend_column : LegendPosition → ℕ → ℕ → ℕ
legend_column TopLeft w width = 0
legend_column AtLeft w width = 0
legend_column BottomLeft w width = 0
legend_column TopRight w width = width - w
legend_column AtRight w width = width - w
legend_column BottomRight w width = width - w
legend_column Top w width = (width - w) / 2
legend_column Bottom w width = (width - w) / 2

abbrev pub one_row_if : Bool → ℕ
one_row_if t = if t then 1 else 0

abbrev pub legend_row : LegendPosition → ℕ → ℕ → Rect → ℕ → ℕ → ℕ
legend_row TopLeft w h g tx ty = min ty 1
legend_row TopRight w h g tx ty = one_row_if (nat_lt g.width (w + ty))
legend_row Top w h g tx ty = one_row_if (nat_lt ((g.width - w) / 2) ty)
legend_row AtLeft w h g tx ty = (g.height - h) / 2 + min ty 1 - min tx 1
legend_row AtRight w h g tx ty = (g.height - h) / 2 + min ty 1 - min tx 1
legend_row BottomLeft w h g tx ty = g.height - h - one_row_if (nat_lt g.width (w + tx))
legend_row BottomRight w h g tx ty = g.height - h - min tx 1
legend_row Bottom w h g tx ty = g.height - h - one_row_if (nat_lt (g.width - tx) ((g.width - w) / 2 + w))

-- the box of the legend around the names; without columns, if there is none: no place for it, no names, or no
-- room
abbrev pub no_box : Rect
no_box = record { x = 0; y = 0; width = 0; height = 0 }

abbrev pub legend_box : Option LegendPosition → Constraint → Constraint → List LineData → Rect → ℕ → ℕ → Rect
legend_box None across down names g tx ty = no_box
legend_box (Some place) across down names g tx ty =
    let w = widest_line names + 2 in
    let h = length names + 2 in
    if nat_lt 2 w && legend_fits across down w h g tx ty then record {
      x = legend_column place w g.width;
      y = legend_row place w h g tx ty;
      width = w;
      height = h;
    } else no_box

-- a name in the first row of an area, if there is one; what is left of the area then, and a drawing there
abbrev pub name_if : Option LineData → Drawing
name_if None = nothing
name_if (Some line) = over (Rows 0 1) (put_line line)

abbrev pub below_name : Option LineData → Rect → Rect
below_name None r = r
below_name (Some line) r = cut_from (Below 1) r

abbrev pub under_name : Option LineData → Drawing → Drawing
under_name None d = d
under_name (Some line) d = over (Below 1) d

-- the names of data sets, one in each row
abbrev pub names : List Dataset → Drawing
names [] = nothing
names (d ∷ ds) = name_if d.name before under_name d.name (names ds)

-- a row of a box: a line between corners
abbrev pub box_row : List ℕ → List ℕ → Drawing
box_row left right =
    ruled new_style line_symbol.HORIZONTAL.now
    before over (First 1) (ruled new_style left)
    before over (Last 1) (ruled new_style right)

-- a box: lines at both sides, and rows with the upper corners and with the lower ones
abbrev pub box_of : Rect → Drawing
box_of r =
    over (First 1) (ruled new_style line_symbol.VERTICAL.now)
    before over (Last 1) (ruled new_style line_symbol.VERTICAL.now)
    before over (Rows 0 1) (box_row line_symbol.TOP_LEFT.now line_symbol.TOP_RIGHT.now)
    before over (Rows (r.height - 1) 1) (box_row line_symbol.BOTTOM_LEFT.now line_symbol.BOTTOM_RIGHT.now)

-- a legend over an area: a style, a box, and the names
abbrev pub legend_in : Style → List Dataset → Rect → Drawing
legend_in style ds r =
    put_style style before box_of r before over (Below 1) (over (After 1) (over (BeforeLast 1) (names ds)))

-- the same where it stands in an area, if it has columns
abbrev pub legend_at : Style → List Dataset → Rect → Rect → Drawing
legend_at style ds at g =
    let rows = Rows at.y at.height in
    let r = cut_from rows (cut_from (First at.width) (cut_from (After at.x) g)) in
    draw_if (nat_lt 0 at.width) (over (After at.x) (over (First at.width) (over rows (legend_in style ds r))))
