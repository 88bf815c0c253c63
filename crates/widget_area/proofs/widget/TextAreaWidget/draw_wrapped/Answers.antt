use Rattle.std.proofs.Common.{refl}
use Rattle.rtui_drawing.proofs.DrawingLemmas.{done-all}
use Rattle.widget_area.proofs.WrapLemmas.{lines-none}
use Rattle.widget_area.proofs.widget.TextAreaWidget.draw_wrapped.Goals as goal

pub returns-in-None-clause-done : goal.returns-in-None-clause-done
returns-in-None-clause-done c =
    let lt = rw c.in-None.is at c.line_start.ensures.none in
    let none = lines-none c.args.self.now c.args.plan.now c.args.inner 0 c.args.plan.now.top c.args.inner.height lt in
    rw none (done-all refl)
