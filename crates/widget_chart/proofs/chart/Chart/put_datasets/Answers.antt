use Rattle.std.proofs.Common.{arith}
use Rattle.std.proofs.lemmas.List.{drop_all}
use Rattle.ratatui_core.proofs.WidgetLemmas.{element-next}
use Rattle.rtui_drawing.proofs.DrawingLemmas.{done-within, continues-next, continues-stop, continues-end}
use Rattle.widget_chart.proofs.chart.Chart.put_datasets.Goals as goal

pub loop-dataset-preserved : goal.loop-dataset-preserved
loop-dataset-preserved c =
    let item = element-next c.args.self.now.datasets.items c.loop-dataset.dataset-index c.dataset-item.result (omega arith)
    (rw c.as_slice-dataset-items.ensures.value at c.dataset-item.is) in
    let same = (done-within _ c.in_ok-put_dataset.ensures).same_area in
    record {
      part = rw same c.loop-dataset.invariant.part;
      rest = continues-next (rw item at c.loop-dataset.invariant.rest) c.in_ok-put_dataset.ensures;
    }

pub returns-in_err-put_dataset : goal.returns-in_err-put_dataset
returns-in_err-put_dataset c =
    let item = element-next c.args.self.now.datasets.items c.loop-dataset.dataset-index c.dataset-item.result (omega arith)
    (rw c.as_slice-dataset-items.ensures.value at c.dataset-item.is) in
    continues-stop _ c.from_residual.ensures.0 (rw item at c.loop-dataset.invariant.rest) c.in_err-put_dataset.ensures

pub returns : goal.returns
returns c =
    let none = drop_all c.loop-dataset.dataset-index c.args.self.now.datasets.items (omega arith) in
    continues-end (rw none at c.loop-dataset.invariant.rest)
