use Rattle.std.proofs.Common.{arith}
use Rattle.std.proofs.lemmas.List.{drop_all}
use Rattle.ratatui_core.proofs.WidgetLemmas.{element-next}
use Rattle.rtui_drawing.proofs.DrawingLemmas.{continues-next, continues-stop, continues-end}
use Rattle.widget_chart.proofs.axis.Axis.put_all.Goals as goal

pub loop-i-preserved : goal.loop-i-preserved
loop-i-preserved c =
    let item = rw c.lines-label-items.ensures at (element-next c.lines-label-items.result.now c.loop-i.i c.label-item.result
    (omega arith) c.label-item.is) in
    continues-next (rw item at c.loop-i.invariant) c.in_ok-put_label.ensures

pub returns-in_err-put_label : goal.returns-in_err-put_label
returns-in_err-put_label c =
    let item = rw c.lines-label-items.ensures at (element-next c.lines-label-items.result.now c.loop-i.i c.label-item.result
    (omega arith) c.label-item.is) in
    continues-stop _ c.from_residual.ensures.0 (rw item at c.loop-i.invariant) c.in_err-put_label.ensures

pub returns : goal.returns
returns c =
    let none = rw c.lines-label-items.ensures at (drop_all c.loop-i.i c.lines-label-items.result.now (omega arith)) in
    continues-end (rw none at c.loop-i.invariant)
