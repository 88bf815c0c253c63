use Rattle.std.proofs.Common.{drop}
use Rattle.rtui_drawing.proofs.Laws.{Continues}
use Rattle.widget_chart.specs.Legends.{names}
use Rattle.widget_chart.proofs.legend.put_names.Given as goal

abbrev pub invariant-loop-dataset : goal.invariant-loop-dataset
invariant-loop-dataset l =
    Continues (names (drop l.dataset-index l.fn.datasets)) l.left (names l.fn.datasets) l.fn.area l.fn.buf l.buf
