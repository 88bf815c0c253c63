-- What the functions of a chart promise one another.
use Rattle.std.specs.Prelude.{◌≡◌, ℕ, ◌+◌, ◌≤◌, min, [], Option, Some, None, unwrap_or}
use Rattle.ratatui_core.specs.{Layout.Rect, Text.LineData, Style.Reset}
use Rattle.widget_boxes.specs.Titles.{title_width}
use Rattle.widget_canvas.specs.declared.canvas.Canvas.{Canvas}
use Rattle.widget_chart.specs.declared.{chart.Chart.Chart, dataset.Dataset.Dataset, legend.LegendSize.LegendSize}
use Rattle.widget_chart.specs.ChartParts.{drawings_of}

-- the canvas of a data set: over the bounds of the axes, in its marker, and over the chart's background
pub record IsCanvasOf (ch : Chart) (d : Dataset) (c : Canvas) : Type 0 where
  pub no_box : c.block ≡ None
  pub left : c.left ≡ ch.x_axis.low
  pub right : c.right ≡ ch.x_axis.high
  pub bottom : c.bottom ≡ ch.y_axis.low
  pub top : c.top ≡ ch.y_axis.high
  pub background : c.background_color ≡ unwrap_or ch.style.bg Reset
  pub marker : c.marker ≡ d.marker
  pub drawn : c.drawings.now ≡ drawings_of d.graph_type d
  pub unlabelled : c.labels.now ≡ []

-- the rows of a legend and of the titles beside it fit into an area
pub record HasLegendRoom (s : LegendSize) (g : Rect) : Type 0 where
  pub rows : s.rows + min s.x_title 1 + min s.y_title 1 ≤ g.height

-- how many names a data set has, and the columns of its name
abbrev pub name_count : Option LineData → ℕ
name_count None = 0
name_count (Some line) = 1

abbrev pub name_columns : Option LineData → ℕ
name_columns None = 0
name_columns (Some line) = title_width line
