use Rattle.std.proofs.Common.{ap, ◌∙◌}
use Rattle.ratatui_ansi.specs.Backend.{reader}
use Rattle.ansi_model.specs.{Screens.screen_shown, Emulator.rested}
use Rattle.ratatui_ansi.proofs.BackendLemmas.{in-order-still}
use Rattle.ratatui_ansi.proofs.calls.AnsiBackendBackend.flush.Goals as goal

pub invariant_of-self-2 : goal.invariant_of-self-2
invariant_of-self-2 g c = (
  in-order-still c.self.invariant.0 c.in_ok-failures.ensures.works c.in_ok-flush.ensures.works
      (ap (λ t. t.bytes) c.flush.ensures.sent ∙ ap (λ s. s.sent.bytes) c.begin.ensures.rest),
  λ _. c.flush.ensures.tied (rw c.begin.ensures.rest (c.self.invariant.1 c.in_ok-failures.ensures.works)),
)

pub returns-clause-ok : goal.returns-clause-ok
returns-clause-ok g c =
    let b = c.self.inside in
    rw (← c.self.view_is) (ap (λ sent. screen_shown b.tracker.written (rested (reader b.tracker.size sent.bytes)))
    (c.flush.ensures.sent ∙ ap (λ s. s.sent) c.begin.ensures.rest))
