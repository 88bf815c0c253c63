use Rattle.std.proofs.Common.{arith}
use Rattle.rtui_drawing.proofs.WriteLemmas.{row-after}
use Rattle.rtui_inside.proofs.InsideLemmas.{row-inside}
use Rattle.widget_area.proofs.RowLemmas.{empty-is, placeholder-drawn}
use Rattle.widget_area.proofs.widget.TextAreaWidget.draw_placeholder.Goals as goal

pub write_if-requires : goal.write_if-requires
write_if-requires c =
    let own = c.args.buf.now.area in
    let first = row-inside own c.args.inner c.of-first.result 0 c.requires.some c.requires.inside c.requires.some.rows
    c.of-first.ensures in
    rw c.of-row.ensures (row-after own c.of-first.result c.args.plan.now.numbers
    (rw c.of-first.ensures (omega (arith, c.requires.numbers))) first)

pub returns-clause-done : goal.returns-clause-done
returns-clause-done c =
    placeholder-drawn c.args.self.now c.args.plan.now c.args.inner c.of-first.result c.of-row.result c.is_empty.result
    c.write_if.result c.args.buf.now c.write_if.new.buf c.of-first.ensures c.of-row.ensures
    (empty-is c.is_empty.result _ c.is_empty.ensures) c.write_if.ensures.done
