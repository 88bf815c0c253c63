-- What the functions of a bar chart promise one another.
use Rattle.std.specs.Prelude.{ℕ, ◌-◌, ◌≤◌, List, [], ◌∷◌, ⊤}
use Rattle.ratatui_core.specs.{Layout.Rect, declared.layout.Direction.Direction}
use Rattle.widget_bars.specs.{declared.group.Bar.Bar, declared.chart.BarChart.BarChart}
use Rattle.widget_bars.specs.{BarCharts.bar_step, declared.chart.Measures.Measures}
use Rattle.ratatui_core.specs.declared.layout.Direction.TheVariants.{Horizontal, Vertical}
use Rattle.widget_bars.specs.BarCharts.{greatest_of_chart, label_columns}

-- bars fit one after the other into so many cells
abbrev pub BarsFit : BarChart → ℕ → List Bar → Type 0
BarsFit c width [] = ⊤
BarsFit c width (bar ∷ bars) = (c.bar_width ≤ width) × BarsFit c (width - bar_step c) bars

-- how many cells an area has along a bar
abbrev pub cells_across : Direction → Rect → ℕ
cells_across Vertical r = r.height
cells_across Horizontal r = r.width

-- what a chart finds out before it renders: the value that fills it, and the columns of its labels
abbrev pub measures_of : BarChart → Measures
measures_of c = record { greatest = greatest_of_chart c; labels = label_columns c }
