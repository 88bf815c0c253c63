use Rattle.std.proofs.Common.{rules, subst, sym}
use Rattle.ratatui_core.specs.Terminal.{ShowsRow}
use Rattle.ratatui_core.proofs.TerminalLemmas.{starts-sized, starts-areas, starts-over-row, starts-and-draws, refused-start}
use Rattle.logview.specs.Rows.{status_text, RendersStatus, end_place}
use Rattle.logview.proofs.view.LogView.new.Goals as goal

pub returns-clause-started : goal.returns-clause-started
returns-clause-started g c = λ blank some.
    let screen = g.B.Backend.screen in
    let t = c.in_ok-terminal.terminal in
    let starts = c.in_ok-terminal.ensures.starts in
    let w = c.draw_status.new.self in
    let drawn = c.in_ok-draw_status.ensures.ok (starts-over-row screen c.args.backend t blank some starts) in
    record {
      starts = starts-and-draws screen (RendersStatus (status_text 0)) (end_place (status_text 0)) c.args.backend t
          w.terminal blank some starts drawn;
      status = subst (λ n. ShowsRow screen (RendersStatus (status_text n)) (end_place (status_text n)) w.terminal)
          (sym c.draw_status.ensures.count) drawn.shown;
    }

pub returns-in_err-draw_status-clause-refused : goal.returns-in_err-draw_status-clause-refused
returns-in_err-draw_status-clause-refused g c =
    let t = c.in_ok-terminal.terminal in
    let starts = c.in_ok-terminal.ensures.starts in
    let by = c.in_err-draw_status.ensures.err (starts-areas g.B.Backend.screen c.args.backend t starts)
    (starts-sized g.B.Backend.screen c.args.backend t starts) in
    let refused = refused-start g.B.Backend.screen g.B.Backend.failures c.args.backend t c.draw_status.new.self.terminal.backend _
    c.in_ok-terminal.ensures.count by c.in_err-draw_status.ensures.faults in
    search rules
