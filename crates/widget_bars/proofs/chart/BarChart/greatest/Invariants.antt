use Rattle.std.proofs.Common.{◌≡◌, max, drop}
use Rattle.widget_bars.specs.BarCharts.{greatest_group}
use Rattle.widget_bars.proofs.chart.BarChart.greatest.Given as goal

abbrev pub invariant-loop-group : goal.invariant-loop-group
invariant-loop-group l = max l.greatest (greatest_group (drop l.group-index l.fn.self.groups.items)) ≡ greatest_group
    l.fn.self.groups.items
