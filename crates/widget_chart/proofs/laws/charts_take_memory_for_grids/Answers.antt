use Rattle.widget_chart.proofs.ShortPlotLemmas.{grid-stops}
use Rattle.widget_chart.proofs.laws.charts_take_memory_for_grids.Goals as goal

pub returns : goal.returns
returns c = grid-stops
