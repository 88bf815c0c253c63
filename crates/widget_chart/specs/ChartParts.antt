-- The parts of a chart: what each of them draws.
use Rattle.std.specs.Prelude.{ℕ, ◌+◌, ◌-◌, ◌*◌, ◌/◌, ◌==◌, nat_lt, min, max, List, [], ◌∷◌, length}
use Rattle.std.specs.Prelude.{Option, Some, None, unwrap_or, if◌then◌else◌}
use Rattle.std.specs.List.{flat_map}
use Rattle.ratatui_core.specs.{Layout.Rect, Layout.Position, Text.LineData}
use Rattle.ratatui_core.specs.Style.{Style, Color, Reset, new_style, with_bg}
use Rattle.ratatui_core.specs.Buffer.{Cell, styled, with_symbol, IsShort}
use Rattle.ratatui_core.specs.declared.layout.HorizontalAlignment.{HorizontalAlignment}
use Rattle.ratatui_core.specs.declared.layout.HorizontalAlignment.TheVariants.{Left, Center, Right}
use Rattle.widget_boxes.specs.Titles.{title_width}
use Rattle.rtui_dots.specs.declared.{drawing.Drawing.Drawing as Shape, scale.Scale.Scale}
use Rattle.rtui_dots.specs.declared.drawing.Drawing.TheVariants.{Points as PointsOf, Path as PathOf}
use Rattle.rtui_dots.specs.declared.drawing.Drawing.TheVariants.{Bars as BarsOf}
use Rattle.rtui_dots.specs.{Grids.Dot, Grids.with_dots, Grids.empty_grid, Layers.drawn_dots}
use Rattle.rtui_symbols.specs.declared.line.TheConstants as line_symbol
use Rattle.rtui_drawing.specs.{Cuts.cut_from}
use Rattle.rtui_drawing.specs.declared.cut.Cut.TheVariants.{First, After, Last, Rows, Above}
use Rattle.rtui_drawing.specs.Drawings.{Drawing, nothing, over, ◌before◌, put_style, put_line, put_change}
use Rattle.rtui_drawing.specs.Drawings.{draw_if}
use Rattle.widget_canvas.specs.Canvases.{shown_at}
use Rattle.widget_chart.specs.{Charts.axis_labels, ChartLayouts.title_columns}
use Rattle.widget_chart.specs.declared.{axis.Axis.Axis, dataset.Dataset.Dataset, dataset.GraphType.GraphType}
use Rattle.widget_chart.specs.declared.{chart.Chart.Chart, layout.Margins.Margins}
use Rattle.widget_chart.specs.declared.dataset.GraphType.TheVariants.{Scatter, Line, Bar}

-- how many columns of the dots each label below has
abbrev pub label_share : Axis → ℕ → ℕ → ℕ
label_share a left width = (width - left) / length (axis_labels a)

-- In which column of a row a label below begins, and how many it has: the first one, which takes n, left of the
-- dots, across their first column, or from the axis at the left on; and label i: those between after a blank
-- column, and the last one at the right.
abbrev pub first_place : HorizontalAlignment → ℕ → ℕ → ℕ → ℕ × ℕ
first_place Left left w n = (0, left)
first_place Center left w n = (0, left + min w n)
first_place Right left w n = (left - 1, w + min left 1)

abbrev pub label_place : Axis → ℕ → ℕ → ℕ → ℕ → ℕ × ℕ
label_place a left width i n =
    let w = label_share a left width in
    if i == 0 then first_place a.labels_alignment left w n
    else if i + 1 == length (axis_labels a) then (width - w, w)
    else (left + i * w + 1, w - 1)

-- label i below in a row, and label i at the left: from the last row up, over all rows
abbrev pub x_label : Axis → ℕ → ℕ → ℕ → LineData → Drawing
x_label a left width i l =
    let place = label_place a left width i (title_width l) in over (After place.0) (over (First place.1) (put_line l))

abbrev pub y_label : Axis → ℕ → ℕ → LineData → Drawing
y_label a height i l =
    let up = i * (height - 1) / max (length (axis_labels a) - 1) 1 in
    over (Rows (height - 1 - up) 1) (put_line l)

-- label i in an area below the dots, so many columns left of them, or at the left
abbrev pub label_at : Axis → Option ℕ → Rect → ℕ → LineData → Drawing
label_at a None r i l = y_label a r.height i l
label_at a (Some left) r i l = x_label a left r.width i l

-- labels, each where it stands by its number, one after the other
abbrev pub each_numbered : (ℕ → LineData → Drawing) → ℕ → List LineData → Drawing
each_numbered place i [] = nothing
each_numbered place i (l ∷ ls) = place i l before each_numbered place (i + 1) ls

-- those below, if there are at least two and a row for them, and those at the left
abbrev pub x_labels : Axis → Margins → Rect → Drawing
x_labels a m r =
    let rows = Rows (r.height - (m.below - m.rows)) (m.below - m.rows) in
    let ls = axis_labels a in
    draw_if (nat_lt 1 (length ls)) (over rows (each_numbered (label_at a (Some m.left) (cut_from rows r)) 0 ls))

abbrev pub y_labels : Axis → Margins → Rect → Drawing
y_labels a m r =
    let q = cut_from (Above m.below) (cut_from (First (m.left - 1)) r) in
    over (First (m.left - 1)) (over (Above m.below) (each_numbered (label_at a None q) 0 (axis_labels a)))

-- a cell of an axis, and an area of such cells
abbrev pub ruled_cell : Style → List ℕ → Position → Cell → Cell
ruled_cell style symbol p c = styled style (with_symbol symbol c)

abbrev pub ruled : Style → List ℕ → Drawing
ruled style symbol = put_change (ruled_cell style symbol) (λ _ _. IsShort symbol)

-- the axes in these styles, and the corner between them
abbrev pub rules : Style → Style → Margins → Rect → Drawing
rules x y m r =
    let rows = Rows (r.height - m.below) m.rows in
    over (After m.left) (over rows (ruled x line_symbol.HORIZONTAL.now))
    before over (After (m.left - m.columns)) (over (First m.columns)
    (over (Above m.below) (ruled y line_symbol.VERTICAL.now) before over rows (ruled x line_symbol.BOTTOM_LEFT.now)))

-- what stands around the dots
abbrev pub axes : Axis → Axis → Margins → Rect → Drawing
axes x y m r = x_labels x m r before y_labels y m r before rules x.style y.style m r

-- what is drawn of a data set: its points, and lines between them or down from them if it is shown so
abbrev pub dots_color : Style → Color
dots_color s = unwrap_or s.fg Reset

abbrev pub drawings_of : GraphType → Dataset → List Shape
drawings_of Scatter d = PointsOf (record { coords = d.points; color = dots_color d.style }) ∷ []
drawings_of Line d =
    PointsOf (record { coords = d.points; color = dots_color d.style })
    ∷ PathOf (record { coords = d.points; color = dots_color d.style })
    ∷ []
drawings_of Bar d =
    PointsOf (record { coords = d.points; color = dots_color d.style })
    ∷ BarsOf (record { coords = d.points; color = dots_color d.style })
    ∷ []

-- the bounds of the axes over the cells of the dots, in a data set's marker
abbrev pub scale_of_data : Chart → Dataset → Rect → Scale
scale_of_data ch d g = record {
  left = ch.x_axis.low;
  right = ch.x_axis.high;
  bottom = ch.y_axis.low;
  top = ch.y_axis.high;
  columns = g.width;
  rows = g.height;
  marker = d.marker;
}

abbrev pub dots_of_data : Scale → Dataset → List Dot
dots_of_data s d = flat_map (λ shape. drawn_dots shape s) (drawings_of d.graph_type d)

-- a cell in the chart's background, as a canvas lays it over its own style, and under a data set's dots
abbrev pub in_background : Chart → Cell → Cell
in_background ch c = styled (with_bg (unwrap_or ch.style.bg Reset) new_style) (styled new_style c)

abbrev pub dotted_cell : Chart → Dataset → Rect → Position → Cell → Cell
dotted_cell ch d g p c =
    let s = scale_of_data ch d g in shown_at s g (with_dots s (dots_of_data s d) (empty_grid s)) p (in_background ch c)

-- a data set over the area of the dots, for whose grid memory may be refused, and data sets, each over those
-- before it
abbrev pub dotted : Chart → Rect → Dataset → Drawing
dotted ch g d = put_change (dotted_cell ch d g) (λ _ _. ⊥)

abbrev pub all_dotted : Chart → Rect → List Dataset → Drawing
all_dotted ch g [] = nothing
all_dotted ch g (d ∷ ds) = dotted ch g d before all_dotted ch g ds

-- the title of an axis, in the style that the chart's first cell had before, and where both of them stand
-- over the dots: at the right of the last row, and at the left of the first one
abbrev pub axis_title : Style → Option LineData → Drawing
axis_title style None = nothing
axis_title style (Some line) = put_style style before put_line line

abbrev pub x_title : Style → Option LineData → Rect → Drawing
x_title style title g =
    over (Rows (g.height - 1) 1) (over (Last (title_columns title 0 g)) (axis_title style title))

abbrev pub y_title : Style → Option LineData → Rect → Drawing
y_title style title g = over (Rows 0 1) (over (First (title_columns title 1 g)) (axis_title style title))
