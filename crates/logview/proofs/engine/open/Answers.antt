use Rattle.std.proofs.Common.{sym, ◌∙◌}
use Rattle.ratatui_core.specs.Backend.{IsBlankScreen}
use Rattle.printed_backend.specs.Printed.{shown_on}
use Rattle.logview.proofs.LogLemmas.{view_opened, if_ok}
use Rattle.logview.proofs.engine.open.Goals as goal

pub returns : goal.returns
returns c = λ some.
    let size = c.args.size in
    let blank = if_ok (λ b. IsBlankScreen size.width size.height (shown_on b)) c.new.result c.in_ok-backend.backend
    (sym c.ok.ensures.value ∙ c.in_ok-backend.was) c.new.ensures.screen in
    rw c.ok-2.ensures.value (view_opened shown_on size c.in_ok-backend.backend c.new-2.result blank some c.new-2.ensures.count
    c.new-2.ensures.started)
