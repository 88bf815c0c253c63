use Rattle.rtui_drawing.specs.declared.cut.Cut.TheVariants.{First, Last, Rows}
use Rattle.rtui_drawing.proofs.DrawingLemmas.{done-in, done-then}
use Rattle.widget_chart.proofs.legend.put_box.Goals as goal

pub returns : goal.returns
returns c =
    let last = c.put_box_row-2.result in
    done-then last (done-in (First 1) _ _ c.in_ok-rule_plain.ensures c.of.ensures)
    (done-then last (done-in (Last 1) _ _ c.in_ok-rule_plain-2.ensures c.of-2.ensures)
    (done-then last (done-in (Rows 0 1) _ _ c.in_ok-put_box_row.ensures c.of-3.ensures)
    (done-in (Rows _ 1) _ last c.put_box_row-2.ensures (rw c.saturating_sub-last.ensures at c.of-4.ensures))))
