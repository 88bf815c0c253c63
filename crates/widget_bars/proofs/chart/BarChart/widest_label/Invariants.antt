use Rattle.std.proofs.Common.{◌≡◌, max, drop}
use Rattle.widget_bars.specs.BarCharts.{widest_label}
use Rattle.widget_bars.proofs.chart.BarChart.widest_label.Given as goal

abbrev pub invariant-loop-group : goal.invariant-loop-group
invariant-loop-group l = max l.widest (widest_label (drop l.group-index l.fn.self.groups.items)) ≡ widest_label
    l.fn.self.groups.items
