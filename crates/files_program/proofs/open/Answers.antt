use Rattle.std.proofs.Common.{sym, subst, ◌∙◌}
use Rattle.ratatui_core.specs.Backend.{Screen, IsBlankScreen}
use Rattle.files_program.proofs.open.Goals as goal

pub returns-clause-blank : goal.returns-clause-blank
returns-clause-blank g c = subst (λ (s : Screen). IsBlankScreen c.args.size.width c.args.size.height s)
    (sym c.in_ok-set_mouse_capture.ensures.ok) c.in_ok-backend.ensures.blank

pub returns-clause-failures : goal.returns-clause-failures
returns-clause-failures g c = c.in_ok-set_mouse_capture.ensures.counts ∙ c.in_ok-backend.ensures.failures
