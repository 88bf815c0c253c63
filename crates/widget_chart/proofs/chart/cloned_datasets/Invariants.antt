use Rattle.std.proofs.Common.{◌≡◌, take}
use Rattle.widget_chart.proofs.chart.cloned_datasets.Given as goal

abbrev pub invariant-loop-dataset : goal.invariant-loop-dataset
invariant-loop-dataset l = l.cloned.items ≡ take l.dataset-index l.datasets
