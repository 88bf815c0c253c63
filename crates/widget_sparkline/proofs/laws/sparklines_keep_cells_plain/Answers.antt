use Rattle.widget_sparkline.proofs.SparklineLemmas.{sparkline-plain}
use Rattle.widget_sparkline.proofs.laws.sparklines_keep_cells_plain.Goals as goal

pub returns : goal.returns
returns c = sparkline-plain
