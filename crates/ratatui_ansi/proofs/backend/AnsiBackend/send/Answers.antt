use Rattle.std.proofs.Common.{ap, ◌∙◌, ◌++◌}
use Rattle.ratatui_ansi.specs.Backend.{reader}
use Rattle.ratatui_ansi.specs.declared.tracker.Tracker.{Tracker}
use Rattle.ratatui_ansi.proofs.{RefusalLemmas.if-error, RefusalLemmas.uncollected-why, BackendLemmas.in-order-on}
use Rattle.ratatui_ansi.proofs.{BackendLemmas.shown-on, BackendLemmas.tracked-from, BackendLemmas.commanded-on}
use Rattle.ratatui_ansi.proofs.BackendLemmas.{commanded-at}
use Rattle.ratatui_ansi.proofs.backend.AnsiBackend.send.Goals as goal

pub invariant_of-self-2 : goal.invariant_of-self-2
invariant_of-self-2 g c =
    let b = c.self.inside in
    let sent = c.in_ok-send.ensures.all.sent ∙ ap (λ s. s.sent.bytes ++ c.as_str.result.now) c.begin.ensures.rest
    ∙ ap (λ xs. b.sender.sent.bytes ++ xs) c.as_str.ensures.value in (
      in-order-on b.sender.sent.bytes c.in_ok-collect.ensures.ok c.clear.ensures.bytes sent c.self.invariant.0
          c.in_ok-failures.ensures.works c.in_ok-send.ensures.all.works,
      λ _. c.in_ok-send.ensures.all.tied (rw c.begin.ensures.rest (c.self.invariant.1 c.in_ok-failures.ensures.works)),
    )

pub returns-clause-ok : goal.returns-clause-ok
returns-clause-ok g c =
    let b = c.self.inside in
    let k : Tracker = record b.tracker { out = c.clear.new.self } in
    let sent = c.in_ok-send.ensures.all.sent ∙ ap (λ s. s.sent.bytes ++ c.as_str.result.now) c.begin.ensures.rest
    ∙ ap (λ xs. b.sender.sent.bytes ++ xs) c.as_str.ensures.value in
    rw (← c.self.view_is) (shown-on b.sender.sent.bytes c.in_ok-collect.ensures.ok c.clear.ensures.bytes sent
    (tracked-from k c.self.invariant.0 c.in_ok-failures.ensures.works))

pub returns-in_err-collect-clause-why : goal.returns-in_err-collect-clause-why
returns-in_err-collect-clause-why g c =
    let b = c.self.inside in
    let kept = c.self.invariant.0 in
    let k : Tracker = record b.tracker { out = c.clear.new.self } in
    if-error _ _ _ c.from_residual-in_err-collect.ensures (rw (← c.self.view_is)
    (uncollected-why k (reader b.tracker.size b.sender.sent.bytes) c.args.call b.tracker.written _ kept.tracker.columns
    (tracked-from k kept c.in_ok-failures.ensures.works) c.in_err-collect.ensures.why))

pub returns-clause-sent : goal.returns-clause-sent
returns-clause-sent g c =
    let b = c.self.inside in
    let sent = c.in_ok-send.ensures.all.sent ∙ ap (λ s. s.sent.bytes ++ c.as_str.result.now) c.begin.ensures.rest
    ∙ ap (λ xs. b.sender.sent.bytes ++ xs) c.as_str.ensures.value in
    let k : Tracker = record b.tracker { out = c.clear.new.self } in
    let tracked = tracked-from k c.self.invariant.0 c.in_ok-failures.ensures.works in
    rw (← c.self.view_is) (commanded-at c.args.call _ _ _ _ tracked.awaiting.placed
    (commanded-on c.args.call _ _ _ _ _ c.in_ok-collect.ensures.bytes c.clear.ensures.bytes sent))
