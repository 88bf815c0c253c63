use Rattle.rtui_drawing.proofs.DrawingLemmas.{done-then}
use Rattle.widget_chart.proofs.parts.draw_axes.Goals as goal

pub returns : goal.returns
returns c =
    let last = c.put_rules.result in
    done-then last c.in_ok-put_x_labels.ensures (done-then last c.in_ok-put_y_labels.ensures c.put_rules.ensures)
