use Rattle.std.proofs.Common.{sym, ap, subst, arith}
use Rattle.ratatui_core.specs.Buffer.{IsShort}
use Rattle.ratatui_core.proofs.BufferLemmas.{within-wider}
use Rattle.ratatui_core.proofs.WidgetLemmas.{holds_anyway}
use Rattle.widget_boxes.proofs.BoxLemmas.{box-area}
use Rattle.widget_scrollbar.specs.{declared.scrollbar.Marks.Marks, Scrollbars.EachSymbol}
use Rattle.widget_scrollbar.proofs.ScrollbarLemmas.{bar-stands, bar-renders}
use Rattle.widget_scrollbar.proofs.scrollbar.RefScrollbarStatefulWidget.render.Goals as goal

pub paint-requires-clause-here : goal.paint-requires-clause-here
paint-requires-clause-here c =
    rw (c.marks-marks.ensures, c.length.ensures) (bar-stands c.args.self.now c.args.state.now c.in-Some.part
    (box-area c.args.area c.args.buf.now.area c.in-Some.part c.in-Some.ensures))

pub returns-clause-ok : goal.returns-clause-ok
returns-clause-ok c =
    bar-renders c.paint.result c.args.self.now c.args.state.now c.args.area c.in-Some.part c.args.buf.now
    c.paint.new.buf c.in-Some.ensures (omega arith) (omega arith) c.paint.ensures.within
    (rw (c.marks-marks.ensures, c.length.ensures) at c.paint.ensures.ok)

pub returns-clause-err : goal.returns-clause-err
returns-clause-err c =
    holds_anyway c.paint.result
    (within-wider c.in-Some.part c.args.area c.args.buf.now c.paint.new.buf c.in-Some.ensures.of_area c.paint.ensures.within)

pub returns-clause-short : goal.returns-clause-short
returns-clause-short c = λ short. c.paint.ensures.short
    (subst (EachSymbol IsShort) (sym (ap (λ (m : Marks). m.bar) c.marks-marks.ensures)) short)
