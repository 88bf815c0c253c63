use Rattle.std.proofs.Common.{ap, refl, ◌∙◌, ◌++◌}
use Rattle.ratatui_ansi.specs.Backend.{reader}
use Rattle.ratatui_ansi.proofs.{RefusalLemmas.if-error, RefusalLemmas.named-place, BackendLemmas.in-order-on}
use Rattle.ratatui_ansi.proofs.{BackendLemmas.shown-on, BackendLemmas.tracked-from, UpdateLemmas.within-sent}
use Rattle.ansi_model.proofs.PlaceLemmas.{each-sent}
use Rattle.ratatui_ansi.proofs.calls.AnsiBackendBackend.draw.Goals as goal

pub invariant_of-self-2 : goal.invariant_of-self-2
invariant_of-self-2 g c =
    let b = c.self.inside in
    let sent = c.in_ok-send_draw.ensures.all.sent ∙ ap (λ s. s.sent.bytes ++ c.as_str-text.result.now) c.begin.ensures.rest
    ∙ ap (λ xs. b.sender.sent.bytes ++ xs) c.as_str-text.ensures.value in (
      in-order-on b.sender.sent.bytes c.in_ok-draw.ensures.ok.2 c.clear.ensures.bytes sent c.self.invariant.0
          c.in_ok-failures.ensures.works c.in_ok-send_draw.ensures.all.works,
      λ _. c.in_ok-send_draw.ensures.all.tied (rw c.begin.ensures.rest (c.self.invariant.1 c.in_ok-failures.ensures.works)),
    )

pub returns-clause-ok : goal.returns-clause-ok
returns-clause-ok g c =
    let b = c.self.inside in
    let sent = c.in_ok-send_draw.ensures.all.sent ∙ ap (λ s. s.sent.bytes ++ c.as_str-text.result.now) c.begin.ensures.rest
    ∙ ap (λ xs. b.sender.sent.bytes ++ xs) c.as_str-text.ensures.value in
    let drawn = c.in_ok-draw.ensures.ok in (
      drawn.0,
      drawn.1,
      rw (← c.self.view_is)
          (shown-on b.sender.sent.bytes drawn.2 c.clear.ensures.bytes sent
          (tracked-from (record b.tracker { out = c.clear.new.self }) c.self.invariant.0 c.in_ok-failures.ensures.works)),
    )

pub returns-in_err-draw-clause-stopped : goal.returns-in_err-draw-clause-stopped
returns-in_err-draw-clause-stopped g c =
    let b = c.self.inside in
    if-error _ _ _ c.from_residual-in_err-draw.ensures (λ named. (
      _,
      refl,
      rw (← c.self.view_is)
          ((c.in_err-draw.ensures.stopped (named-place _ named)).stops (reader b.tracker.size b.sender.sent.bytes)
          (c.self.invariant.0.awaiting c.in_ok-failures.ensures.works)),
    ))

pub returns-clause-within : goal.returns-clause-within
returns-clause-within g c =
    let b = c.self.inside in
    let sent = c.in_ok-send_draw.ensures.all.sent ∙ ap (λ s. s.sent.bytes ++ c.as_str-text.result.now) c.begin.ensures.rest
    ∙ ap (λ xs. b.sender.sent.bytes ++ xs) c.as_str-text.ensures.value in
    rw (← c.self.view_is) (λ told. within-sent _ _ _ _ (c.in_ok-draw.ensures.within told) c.clear.ensures.bytes sent)

pub returns-clause-placed : goal.returns-clause-placed
returns-clause-placed g c =
    let b = c.self.inside in
    let sent = c.in_ok-send_draw.ensures.all.sent ∙ ap (λ s. s.sent.bytes ++ c.as_str-text.result.now) c.begin.ensures.rest
    ∙ ap (λ xs. b.sender.sent.bytes ++ xs) c.as_str-text.ensures.value in
    rw (← c.self.view_is) (λ wide. each-sent _ _ _ _ (c.in_ok-draw.ensures.placed wide) c.clear.ensures.bytes sent)
