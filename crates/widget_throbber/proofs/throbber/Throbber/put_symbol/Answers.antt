use Rattle.std.proofs.Common.{codes}
use Rattle.rtui_drawing.proofs.DrawingLemmas.{done-stop}
use Rattle.widget_throbber.specs.Throbbers.{text_then, label_drawing}
use Rattle.widget_throbber.proofs.ThrobberLemmas.{text-then}
use Rattle.widget_throbber.proofs.throbber.Throbber.put_symbol.Goals as goal

pub returns-in_err-row : goal.returns-in_err-row
returns-in_err-row c = done-stop c.from_residual.result c.from_residual.ensures.0 c.in_err-row.ensures.done

pub returns-in_err-row-2 : goal.returns-in_err-row-2
returns-in_err-row-2 c =
    let t = c.args.self.now in
    text-then t.throbber_style c.args.symbol.now (text_then t.throbber_style (codes " ") (label_drawing t.label)) c.args.row
    c.in_ok-row.row c.from_residual-in_err-row-2.result c.in_ok-row.ensures.done c.in_ok-row.ensures.rest
    (done-stop c.from_residual-in_err-row-2.result c.from_residual-in_err-row-2.ensures.0 c.in_err-row-2.ensures.done)

pub returns : goal.returns
returns c =
    let t = c.args.self.now in
    text-then t.throbber_style c.args.symbol.now (text_then t.throbber_style (codes " ") (label_drawing t.label)) c.args.row
    c.in_ok-row.row c.put_label.result c.in_ok-row.ensures.done c.in_ok-row.ensures.rest
    (text-then t.throbber_style (codes " ") (label_drawing t.label) c.in_ok-row.row c.in_ok-row-2.row c.put_label.result
    c.in_ok-row-2.ensures.done c.in_ok-row-2.ensures.rest c.put_label.ensures)
