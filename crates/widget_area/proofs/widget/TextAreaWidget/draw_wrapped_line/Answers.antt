use Rattle.rtui_drawing.proofs.DrawingLemmas.{draws-then, done-then}
use Rattle.widget_area.proofs.widget.TextAreaWidget.draw_wrapped_line.Goals as goal

pub returns-clause-done : goal.returns-clause-done
returns-clause-done c =
    draws-then c.draw_wrapped_text.result c.put_row_style.ensures.drawn
    (done-then c.draw_wrapped_text.result c.in_ok-draw_first_number.ensures.done c.draw_wrapped_text.ensures.done)
