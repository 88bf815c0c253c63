use Rattle.std.proofs.Common.{ap, ◌∙◌, ◌++◌}
use Rattle.ratatui_ansi.specs.declared.tracker.Tracker.{Tracker}
use Rattle.ratatui_ansi.proofs.{BackendLemmas.in-order-on, BackendLemmas.shown-on, BackendLemmas.tracked-from}
use Rattle.ratatui_ansi.proofs.backend.AnsiBackend.show_title.Goals as goal

pub invariant_of-self-2 : goal.invariant_of-self-2
invariant_of-self-2 g c =
    let b = c.self.inside in
    let sent = c.in_ok-send.ensures.all.sent ∙ ap (λ s. s.sent.bytes ++ c.as_str.result.now) c.begin.ensures.rest
    ∙ ap (λ xs. b.sender.sent.bytes ++ xs) c.as_str.ensures.value in (
      in-order-on b.sender.sent.bytes c.in_ok-title.ensures.ok c.clear.ensures.bytes sent c.self.invariant.0
          c.in_ok-failures.ensures.works c.in_ok-send.ensures.all.works,
      λ _. c.in_ok-send.ensures.all.tied (rw c.begin.ensures.rest (c.self.invariant.1 c.in_ok-failures.ensures.works)),
    )

pub returns-clause-ok : goal.returns-clause-ok
returns-clause-ok g c =
    let b = c.self.inside in
    let k : Tracker = record b.tracker { out = c.clear.new.self } in
    let sent = c.in_ok-send.ensures.all.sent ∙ ap (λ s. s.sent.bytes ++ c.as_str.result.now) c.begin.ensures.rest
    ∙ ap (λ xs. b.sender.sent.bytes ++ xs) c.as_str.ensures.value in
    rw (← c.self.view_is) (shown-on b.sender.sent.bytes c.in_ok-title.ensures.ok c.clear.ensures.bytes sent
    (tracked-from k c.self.invariant.0 c.in_ok-failures.ensures.works))
