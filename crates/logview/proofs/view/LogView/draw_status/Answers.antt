use Rattle.std.proofs.Common.{rules, subst, arith}
use Rattle.ratatui_core.specs.Terminal.{DrawsRow}
use Rattle.ratatui_core.proofs.TerminalLemmas.{draws-row, refused-by-backend-if}
use Rattle.logview.specs.Rows.{status_text, RendersStatus, end_place}
use Rattle.logview.specs.Inner.{RendersShortStatus}
use Rattle.logview.proofs.StatusLemmas.{short-status, status-settled}
use Rattle.logview.proofs.view.LogView.draw_status.Goals as goal

pub returns-clause-ok : goal.returns-clause-ok
returns-clause-ok g c = λ is.
    let v = c.args.self.now in
    let frame = c.in_ok-self.field-0.terminal.now in
    let text = status_text v.count in
    subst (λ t. DrawsRow g.B.Backend.screen (RendersStatus text) (end_place text) v.terminal t) (search rules)
    (draws-row g.B.Backend.screen (RendersStatus text) (end_place text) v.terminal frame _ is
    (λ s cursor painted ran has. search rules) (λ s cursor painted ran. search rules) (status-settled text)
    c.in_ok-self.ensures.drawn)

pub returns-in_err-self-clause-err : goal.returns-in_err-self-clause-err
returns-in_err-self-clause-err g c = λ areas sized.
    let text = c.status_text-text in
    let by =
    refused-by-backend-if g.B.Backend.screen _ c.args.self.now.terminal c.draw.follows.lender-at-none _ c.draw.result sized areas
    (λ s cursor painted ran.
    let frame = ran.before in
    let short : RendersShortStatus text.result.bytes frame.viewport_area frame.buffer.now =
    rw text.ensures (short-status c.args.self.now.count frame.viewport_area frame.buffer.now (omega arith)) in
    search rules) (λ s cursor painted ran. search rules) c.draw.follows.holds-at-none in
    search rules
