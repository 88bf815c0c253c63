use Rattle.std.proofs.Common.{◌≡◌, ◌+◌, ◌≤◌, length, drop}
use Rattle.widget_chart.specs.{Legends.legend_names}
use Rattle.widget_chart.proofs.legend.count_names.Given as goal

abbrev pub invariant-loop-dataset : goal.invariant-loop-dataset
invariant-loop-dataset l = record {
  below : l.count ≤ l.dataset-index;
  rest : l.count + length (legend_names (drop l.dataset-index l.fn.datasets)) ≡ length (legend_names l.fn.datasets);
}
