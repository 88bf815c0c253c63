use Rattle.rtui_drawing.specs.declared.cut.Cut.TheVariants.{First, Last}
use Rattle.rtui_drawing.proofs.DrawingLemmas.{done-in, done-then}
use Rattle.widget_chart.proofs.legend.put_box_row.Goals as goal

pub returns : goal.returns
returns c =
    let last = c.rule_plain-3.result in
    done-then last c.in_ok-rule_plain.ensures
    (done-then last (done-in (First 1) _ _ c.in_ok-rule_plain-2.ensures c.of.ensures)
    (done-in (Last 1) _ last c.rule_plain-3.ensures c.of-2.ensures))
