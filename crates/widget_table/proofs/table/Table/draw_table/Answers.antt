use Rattle.ratatui_core.proofs.WidgetLemmas.{within-then}
use Rattle.rtui_drawing.proofs.DrawingLemmas.{done-within}
use Rattle.widget_table.proofs.BodyLemmas.{parts-made}
use Rattle.widget_table.proofs.table.Table.draw_table.Goals as goal

pub returns-in_err-draw_outer-clause-within : goal.returns-in_err-draw_outer-clause-within
returns-in_err-draw_outer-clause-within c = done-within _ c.in_err-draw_outer.ensures

pub returns-in_err-draw_body-clause-within : goal.returns-in_err-draw_body-clause-within
returns-in_err-draw_body-clause-within c =
    within-then c.args.places.whole c.args.buf.now c.draw_outer.new.buf c.draw_body.new.buf
    (done-within _ c.in_ok-draw_outer.ensures) c.in_err-draw_body.ensures.within

pub returns-clause-within : goal.returns-clause-within
returns-clause-within c =
    within-then c.args.places.whole c.args.buf.now c.draw_outer.new.buf c.draw_outer-2.new.buf
    (done-within _ c.in_ok-draw_outer.ensures)
    (within-then c.args.places.whole c.draw_outer.new.buf c.draw_body.new.buf c.draw_outer-2.new.buf
    c.in_ok-draw_body.ensures.within (done-within c.draw_outer-2.result c.draw_outer-2.ensures))

pub returns-clause-ok : goal.returns-clause-ok
returns-clause-ok c =
    parts-made c.draw_outer-2.result c.args.self.now c.args.state c.args.columns.now c.args.places.whole c.args.buf.now
    c.draw_outer.new.buf c.draw_body.new.buf c.draw_outer-2.new.buf c.in_ok-draw_outer.ensures.ok
    (rw (c.requires.symbol, c.requires.rows) at c.in_ok-draw_body.ensures.ok) (rw c.requires.footer at c.draw_outer-2.ensures)
