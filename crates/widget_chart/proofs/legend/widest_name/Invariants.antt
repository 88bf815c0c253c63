use Rattle.std.proofs.Common.{◌≡◌, max, drop}
use Rattle.widget_chart.specs.{ChartLayouts.widest_line, Legends.legend_names}
use Rattle.widget_chart.proofs.legend.widest_name.Given as goal

abbrev pub invariant-loop-dataset : goal.invariant-loop-dataset
invariant-loop-dataset l = max l.widest (widest_line (legend_names (drop l.dataset-index l.fn.datasets))) ≡ widest_line
    (legend_names l.fn.datasets)
