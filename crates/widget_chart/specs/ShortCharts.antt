-- A chart whose texts take no memory.
use Rattle.std.specs.Prelude.{◌≡◌, All, IfSome, []}
use Rattle.ratatui_core.specs.{Layout.Rect, Buffer.BufferData}
use Rattle.widget_boxes.specs.{Lines.IsShortTitle, Framed.IsShortFrame}
use Rattle.rtui_drawing.specs.Drawings.{DrawsAll, IsStopped}
use Rattle.widget_chart.specs.{Charts.HasTexts, ChartLayouts.margins_of, ChartLayouts.graph_in}
use Rattle.widget_chart.specs.ChartParts.{axes, all_dotted}
use Rattle.widget_chart.specs.declared.{axis.Axis.Axis, dataset.Dataset.Dataset, chart.Chart.Chart}

-- an axis's title and its labels take no memory, wherever they stand
abbrev pub HasShortTexts : Axis → Type 0
HasShortTexts = HasTexts IsShortTitle

-- nor does a data set's name
abbrev pub HasShortName : Dataset → Type 0
HasShortName d = IfSome d.name IsShortTitle

-- none of a chart's texts does
pub record HasShortWords (c : Chart) : Type 0 where
  pub x_axis : HasShortTexts c.x_axis
  pub y_axis : HasShortTexts c.y_axis
  pub names : All HasShortName c.datasets.items

-- memory was refused for the grid of a data set: the labels and the axes stand, and the data sets before it
pub record StopsAtGrid (c : Chart) (r : Rect) (old new : BufferData) : Type 0 where
  pub drawn : BufferData
  pub around : DrawsAll (axes c.x_axis c.y_axis (margins_of c.x_axis c.y_axis r) r) r old drawn
  pub grid : let g = graph_in (margins_of c.x_axis c.y_axis r) r in
      IsStopped (all_dotted c g c.datasets.items) g drawn new

-- a chart takes no memory: neither its box nor its texts do, and it has no data sets
pub record IsShortChart (c : Chart) (s : BufferData) : Type 0 where
  pub frame : IsShortFrame c.block s
  pub words : HasShortWords c
  pub no_data : c.datasets.items ≡ []
