use Rattle.std.proofs.Common.{subst}
use Rattle.rtui_drawing.specs.Drawings.{DrawsAll}
use Rattle.rtui_drawing.proofs.DrawingLemmas.{done-all}
use Rattle.widget_area.specs.declared.plan.Plan.{Plan}
use Rattle.widget_area.specs.TextAreas.{planned_drawing}
use Rattle.widget_area.proofs.widget.TextAreaWidgetDrawStateInside.draw_state_inside.Goals as goal

pub returns-clause-done : goal.returns-clause-done
returns-clause-done c =
    done-all (subst (λ (p : Plan). DrawsAll (planned_drawing c.args.self.now p c.args.inner) c.args.inner c.args.buf.now
    c.draw_plan.new.buf) c.plan-plan.ensures.value c.in_ok-draw_plan.ensures.ok)
