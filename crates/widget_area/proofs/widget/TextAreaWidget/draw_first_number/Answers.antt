use Rattle.std.proofs.Common.{refl, arith}
use Rattle.rtui_drawing.proofs.DrawingLemmas.{done-all}
use Rattle.rtui_inside.proofs.InsideLemmas.{row-inside}
use Rattle.widget_area.proofs.WrapLemmas.{number-shown, number-hidden}
use Rattle.widget_area.proofs.widget.TextAreaWidget.draw_first_number.Goals as goal

pub returns-then-begin-plan-clause-done : goal.returns-then-begin-plan-clause-done
returns-then-begin-plan-clause-done c =
    let none = number-hidden c.args.self.now c.args.plan.now c.args.inner.width c.args.begin c.args.number (omega arith) in
    rw none (done-all refl)

pub draw_number-requires : goal.draw_number-requires
draw_number-requires c =
    row-inside c.args.buf.now.area c.args.inner c.of-row.result _ c.requires.some c.requires.inside c.requires.there
    c.of-row.ensures

pub returns-clause-done : goal.returns-clause-done
returns-clause-done c =
    number-shown c.args.self.now c.args.plan.now c.args.inner c.of-row.result c.args.begin c.args.number
    c.draw_number.result c.args.buf.now c.draw_number.new.buf (omega arith) c.of-row.ensures c.draw_number.ensures.done
