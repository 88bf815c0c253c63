use Rattle.std.proofs.Common.{◌≡◌, unwrap_or, rules, arith}
use Rattle.ratatui_core.specs.Style.{new_style}
use Rattle.widget_area.proofs.RowLemmas.{number-drawn}
use Rattle.widget_area.proofs.widget.TextAreaWidget.draw_number.Goals as goal

pub returns-clause-done : goal.returns-clause-done
returns-clause-done c =
    let style : c.unwrap_or-style.result ≡ unwrap_or c.args.self.now.line_numbers new_style = search rules in
    number-drawn c.args.self.now c.args.plan.now c.args.row c.of-part.result c.args.number c.saturating_sub-columns.result
    c.past-next.result c.unwrap_or-style.result c.write_number.result c.args.buf.now c.write_number.new.buf (omega arith)
    c.past-next.ensures style c.of-part.ensures c.write_number.ensures.done
