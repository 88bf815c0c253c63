use Rattle.std.proofs.Common.{refl, arith}
use Rattle.rtui_drawing.proofs.DrawingLemmas.{done-all}
use Rattle.rtui_drawing.proofs.WriteLemmas.{row-after}
use Rattle.rtui_inside.proofs.InsideLemmas.{row-inside}
use Rattle.widget_area.proofs.WrapLemmas.{wrapped-drawn, wrapped-hidden}
use Rattle.widget_area.proofs.widget.TextAreaWidget.draw_wrapped_grapheme.Goals as goal

pub returns-then-row-plan-clause-done : goal.returns-then-row-plan-clause-done
returns-then-row-plan-clause-done c =
    let none = wrapped-hidden c.args.self.now c.args.plan.now c.args.inner.width c.args.begin c.args.at.column c.args.at.byte
    c.wrapped_row-row.result c.args.grapheme.now c.wrapped_row-row.ensures (omega arith) in
    rw none (done-all refl)

pub draw_grapheme-requires-clause-row : goal.draw_grapheme-requires-clause-row
draw_grapheme-requires-clause-row c =
    let own = c.args.buf.now.area in
    let line = row-inside own c.args.inner c.of-line.result _ c.requires.some c.requires.inside
    (omega (arith, c.wrapped_row-row.ensures, c.requires.there)) c.of-line.ensures in
    rw c.of-part.ensures (row-after own c.of-line.result c.args.plan.now.numbers
    (rw c.of-line.ensures (omega (arith, c.requires.numbers))) line)

pub draw_grapheme-requires-clause-there : goal.draw_grapheme-requires-clause-there
draw_grapheme-requires-clause-there c =
    rw (c.of-part.ensures, c.of-line.ensures) (omega (arith, c.turned-turned.ensures.within, c.requires.numbers))

pub returns-clause-done : goal.returns-clause-done
returns-clause-done c =
    wrapped-drawn c.args.self.now c.args.plan.now c.turned-turned.result c.args.inner c.of-line.result c.of-part.result
    c.args.begin c.args.at.column c.args.at.byte c.wrapped_row-row.result c.args.grapheme.now c.draw_grapheme.result
    c.args.buf.now c.draw_grapheme.new.buf c.wrapped_row-row.ensures (omega arith) c.of-line.ensures c.of-part.ensures
    c.turned-turned.ensures.value c.draw_grapheme.ensures.done
