use Rattle.std.proofs.Common.{rules, ◌≤◌, ◌-◌, arith}
use Rattle.widget_area.proofs.FrontLaws.{front-left}
use Rattle.widget_area.proofs.widget.TextAreaWidget.draw_part.Goals as goal

pub returns-clause-done : goal.returns-clause-done
returns-clause-done c =
    let column : c.args.from.column ≤ 18446744073709551615 = search rules in
    let byte : c.args.from.byte ≤ 18446744073709551615 = search rules in
    let room : c.front_len-front.result ≤ c.columns_left.result - c.args.from.column =
    omega (arith, c.front_len-front.ensures.max, c.saturating_sub-hidden.ensures) in
    front-left c.args.self.now c.args.plan.now c.args.row c.args.row.width c.args.from.column c.args.from.byte
    c.front_len-front.result c.columns_left.result c.args.text.now c.draw_rest.result c.args.buf.now c.draw_rest.new.buf column
    byte c.front_len-front.ensures.front c.front_len-front.ensures.graphemes room c.columns_left.ensures.within
    c.columns_left.ensures.unselected
    (rw (c.past.ensures, c.past-2.ensures, c.range_from.ensures.value) at c.draw_rest.ensures.done)
