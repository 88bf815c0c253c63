use Rattle.std.proofs.Common.{sym, ap, subst, ◌∙◌}
use Rattle.ratatui_core.specs.Layout.{Rect}
use Rattle.ratatui_ansi.specs.{Backend.shown_by, Refusals.StopsSending}
use Rattle.follow.specs.Lines.{LookAlike, shown_line}
use Rattle.follow.proofs.RowLemmas.{pushed-alike, refused-alike}
use Rattle.follow.proofs.push_row.Goals as goal

pub returns-clause-pushed : goal.returns-clause-pushed
returns-clause-pushed g c = λ is.
    let columns = c.viewport_area-columns.result.width in
    let area = c.viewport_area-columns.ensures ∙ ap (λ t. t.viewport_area) c.terminal.ensures in
    let same = sym c.as_str.ensures.value in
    pushed-alike shown_by c.as_str.result.now (shown_line c.args.line.now) c.args.view.now c.push.new.self columns is
    (ap (λ (r : Rect). r.width) area)
    (subst (λ text. LookAlike columns text (shown_line c.args.line.now)) same c.in-Ok.ensures) c.push.result
    (c.push.ensures.pushed is)

pub returns-clause-refused : goal.returns-clause-refused
returns-clause-refused g c = λ is.
    let columns = c.viewport_area-columns.result.width in
    let area = c.viewport_area-columns.ensures ∙ ap (λ t. t.viewport_area) c.terminal.ensures in
    let same = sym c.as_str.ensures.value in
    refused-alike shown_by c.as_str.result.now (shown_line c.args.line.now) c.args.view.now c.push.new.self columns is
    (ap (λ (r : Rect). r.width) area)
    (subst (λ text. LookAlike columns text (shown_line c.args.line.now)) same c.in-Ok.ensures) StopsSending c.push.result
    (c.push.ensures.refused is)
