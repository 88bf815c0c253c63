use Rattle.std.proofs.Common.{◌≡◌, max, drop}
use Rattle.widget_bars.specs.BarCharts.{greatest_bar}
use Rattle.widget_bars.proofs.chart.greatest_bar.Given as goal

abbrev pub invariant-loop-bar : goal.invariant-loop-bar
invariant-loop-bar l = max l.greatest (greatest_bar (drop l.bar-index l.fn.bars)) ≡ greatest_bar l.fn.bars
