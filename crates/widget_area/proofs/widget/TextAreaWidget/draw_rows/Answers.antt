use Rattle.std.proofs.Common.{arith, refl}
use Rattle.rtui_drawing.proofs.DrawingLemmas.{done-all}
use Rattle.widget_area.proofs.RowLemmas.{rows-none}
use Rattle.widget_area.proofs.widget.TextAreaWidget.draw_rows.Goals as goal

pub returns-in-None-clause-done : goal.returns-in-None-clause-done
returns-in-None-clause-done c =
    let lt = rw c.in-None.is at c.line_start.ensures.none in
    let none = rows-none c.args.self.now c.args.plan.now c.args.inner.width 0 c.args.inner.height (omega (arith, lt)) in
    rw none (done-all refl)
