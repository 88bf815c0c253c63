use Rattle.widget_bars.proofs.NarrowChartLemmas.{chart-plain}
use Rattle.widget_bars.proofs.laws.bar_charts_keep_cells_plain.Goals as goal

pub returns : goal.returns
returns c = chart-plain
