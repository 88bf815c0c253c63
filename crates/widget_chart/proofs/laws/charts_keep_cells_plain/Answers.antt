use Rattle.widget_chart.proofs.NarrowPlotLemmas.{chart-plain}
use Rattle.widget_chart.proofs.laws.charts_keep_cells_plain.Goals as goal

pub returns : goal.returns
returns c = chart-plain
