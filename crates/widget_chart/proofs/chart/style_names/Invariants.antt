use Rattle.std.proofs.Common.{◌≡◌, ◌++◌, length, map, take, drop}
use Rattle.widget_chart.specs.Charts.{with_styled_name}
use Rattle.widget_chart.proofs.chart.style_names.Given as goal

abbrev pub invariant-loop-i : goal.invariant-loop-i
invariant-loop-i l = record {
  count : length l.datasets ≡ length l.fn.datasets;
  rest : take l.i l.datasets ++ map with_styled_name (drop l.i l.datasets) ≡ map with_styled_name l.fn.datasets;
}
