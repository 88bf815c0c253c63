use Rattle.std.proofs.Common.{arith}
use Rattle.std.proofs.lemmas.List.{drop_all}
use Rattle.ratatui_core.proofs.WidgetLemmas.{element-next}
use Rattle.rtui_drawing.proofs.DrawingLemmas.{continues-next, continues-stop, continues-end}
use Rattle.widget_chart.proofs.PlotLemmas.{continues-under}
use Rattle.widget_chart.proofs.legend.put_names.Goals as goal

pub loop-dataset-preserved : goal.loop-dataset-preserved
loop-dataset-preserved c =
    let d = c.dataset-item.result in
    let item = element-next c.args.datasets.now c.loop-dataset.dataset-index d (omega arith) c.dataset-item.is in
    rw c.in_ok-left.ensures.rest (continues-under d.name c.loop-dataset.left
    (continues-next (rw item at c.loop-dataset.invariant) c.in_ok-left.ensures.done))

pub returns-in_err-left : goal.returns-in_err-left
returns-in_err-left c =
    let item = element-next c.args.datasets.now c.loop-dataset.dataset-index c.dataset-item.result (omega arith)
    c.dataset-item.is in
    continues-stop _ c.from_residual.ensures.0 (rw item at c.loop-dataset.invariant) c.in_err-left.ensures.done

pub returns : goal.returns
returns c = continues-end (rw (drop_all c.loop-dataset.dataset-index c.args.datasets.now (omega arith)) at c.loop-dataset.invariant)
