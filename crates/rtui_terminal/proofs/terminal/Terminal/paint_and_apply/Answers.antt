use Rattle.std.proofs.Common.{Ok, Err, refl}
use Rattle.rtui_terminal.proofs.{MapErrLemmas.at_error, RenderLemmas.draws_on}
use Rattle.rtui_terminal.proofs.terminal.Terminal.paint_and_apply.Goals as goal

pub returns-in_ok-apply-in-Ok-clause-drawn : goal.returns-in_ok-apply-in-Ok-clause-drawn
returns-in_ok-apply-in-Ok-clause-drawn g c =
    draws_on _ _ _ _ _ (rw (← c.self.view_is) at c.in_ok-autoresize.ensures.outcome) _ _ (rw c.in-Ok.is at c.paint-answer.ensures)
    {T = Unit {0}} {E = g.row.B-Error.Denot} (Ok tt) c.in_ok-apply-in-Ok.ensures.outcome

pub returns-in_err-apply-in-Ok-clause-drawn : goal.returns-in_err-apply-in-Ok-clause-drawn
returns-in_err-apply-in-Ok-clause-drawn g c =
    at_error _ _ _ _ c.from_residual-in_err-apply-in-Ok.ensures.1
    (draws_on _ _ _ _ _ (rw (← c.self.view_is) at c.in_ok-autoresize.ensures.outcome) _ _
    (rw c.in-Ok.is at c.paint-answer.ensures) {T = Unit {0}}
    (Err c.in_err-apply-in-Ok.field-0.0) c.in_err-apply-in-Ok.ensures.outcome)

pub returns-in-Err-clause-drawn : goal.returns-in-Err-clause-drawn
returns-in-Err-clause-drawn g c =
    record {
      refuses = record { sized = _; autoresized = rw (← c.self.view_is) at c.in_ok-autoresize.ensures.outcome; rest = refl };
      cursor = c.paint-answer.result.1;
      closure = rw c.in-Err.is at c.paint-answer.ensures;
    }
