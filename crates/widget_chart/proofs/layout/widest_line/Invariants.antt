use Rattle.std.proofs.Common.{◌≡◌, max, drop}
use Rattle.widget_chart.specs.ChartLayouts.{widest_line}
use Rattle.widget_chart.proofs.layout.widest_line.Given as goal

abbrev pub invariant-loop-line : goal.invariant-loop-line
invariant-loop-line l = max l.widest (widest_line (drop l.line-index l.fn.lines)) ≡ widest_line l.fn.lines
