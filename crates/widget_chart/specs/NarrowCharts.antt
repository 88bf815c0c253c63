-- A chart whose texts and marks take one column each.
use Rattle.std.specs.Prelude.{All, IfSome}
use Rattle.widget_canvas.specs.Canvases.{HasNarrowDots}
use Rattle.widget_chart.specs.Charts.{HasTexts}
use Rattle.widget_chart.specs.declared.{axis.Axis.Axis, dataset.Dataset.Dataset, chart.Chart.Chart}
use Rattle.ratatui_core.specs.Text.{TakesOneColumn, EachLineGrapheme}

-- the graphemes of an axis's title and of its labels take one column each
abbrev pub HasNarrowTexts : Axis → Type 0
HasNarrowTexts = HasTexts (EachLineGrapheme TakesOneColumn)

-- so do those of a data set's name, and its marks
pub record IsNarrowDataset (d : Dataset) : Type 0 where
  pub name : IfSome d.name (EachLineGrapheme TakesOneColumn)
  pub marks : HasNarrowDots d.marker

-- all of them do
pub record IsNarrowChart (c : Chart) : Type 0 where
  pub x_axis : HasNarrowTexts c.x_axis
  pub y_axis : HasNarrowTexts c.y_axis
  pub datasets : All IsNarrowDataset c.datasets.items
