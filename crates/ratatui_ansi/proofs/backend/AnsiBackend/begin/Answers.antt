use Rattle.std.proofs.Common.{refl}
use Rattle.ratatui_ansi.proofs.BackendLemmas.{begun, blank-shown-by, blank-sent}
use Rattle.ratatui_ansi.proofs.backend.AnsiBackend.begin.Goals as goal

pub invariant_of-result : goal.invariant_of-result
invariant_of-result g c =
    let begins = c.requires.blank in
    let blank = blank-sent begins.blank refl refl c.as_str.ensures.value c.in-Ok.ensures.sent in
    (begun begins blank c.in-Ok.ensures.works, λ _. c.in-Ok.ensures.tied)

pub returns-in-Ok-clause-blank : goal.returns-in-Ok-clause-blank
returns-in-Ok-clause-blank g c =
    let begins = c.requires.blank in
    blank-shown-by begins (blank-sent begins.blank refl refl c.as_str.ensures.value c.in-Ok.ensures.sent)
