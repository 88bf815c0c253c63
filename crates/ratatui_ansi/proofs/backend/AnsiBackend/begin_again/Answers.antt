use Rattle.std.proofs.Common.{refl}
use Rattle.ratatui_ansi.proofs.BackendLemmas.{begun, blank-shown-by, blank-sent}
use Rattle.ratatui_ansi.proofs.backend.AnsiBackend.begin_again.Goals as goal

pub invariant_of-self-2 : goal.invariant_of-self-2
invariant_of-self-2 g c =
    let begins = c.in_ok-tracker.ensures.ok in
    let blank = blank-sent begins.blank refl c.renew.ensures.sent c.as_str.ensures.value c.in_ok-send.ensures.all.sent in
    (begun begins blank c.in_ok-send.ensures.all.works, λ _. c.in_ok-send.ensures.all.tied c.renew.ensures.tied)

pub returns-clause-blank : goal.returns-clause-blank
returns-clause-blank g c =
    let begins = c.in_ok-tracker.ensures.ok in
    blank-shown-by begins (blank-sent begins.blank refl c.renew.ensures.sent c.as_str.ensures.value c.in_ok-send.ensures.all.sent)
