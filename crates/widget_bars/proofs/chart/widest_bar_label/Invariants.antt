use Rattle.std.proofs.Common.{◌≡◌, max, drop}
use Rattle.widget_bars.specs.BarCharts.{widest_bar_label}
use Rattle.widget_bars.proofs.chart.widest_bar_label.Given as goal

abbrev pub invariant-loop-bar : goal.invariant-loop-bar
invariant-loop-bar l = max l.widest (widest_bar_label (drop l.bar-index l.fn.bars)) ≡ widest_bar_label l.fn.bars
