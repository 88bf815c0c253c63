use Rattle.std.proofs.lemmas.List.{drop_more, drop_all}
use Rattle.ratatui_core.proofs.{WidgetLemmas.within-then}
use Rattle.widget_canvas.specs.Canvases.{scale_of}
use Rattle.widget_canvas.proofs.CanvasLemmas.{begun, drawn, ended}
use Rattle.widget_canvas.proofs.canvas.Canvas.render_layers.Goals as goal

pub loop-drawing-init : goal.loop-drawing-init
loop-drawing-init c =
    begun (scale_of c.args.self.now c.args.inner) c.args.inner c.args.self.now.drawings.now c.args.buf.now c.args.painter.now
    c.requires.scale c.requires.cells

pub loop-drawing-preserved : goal.loop-drawing-preserved
loop-drawing-preserved c =
    drawn (scale_of c.args.self.now c.args.inner) c.args.inner c.args.self.now.drawings.now c.args.buf.now _ _ _
    c.loop-drawing.painter c.draw_next.new.painter c.loop-drawing.buf c.draw_next.new.buf c.loop-drawing.invariant
    c.draw_next.ensures.draws c.draw_next.ensures.within
    (drop_more c.args.self.now.drawings.now c.loop-drawing.drawing-index _ c.loop-drawing-test.true)

pub returns-clause-within : goal.returns-clause-within
returns-clause-within c = within-then c.args.inner c.args.buf.now c.loop-drawing.buf c.show.new.buf
    c.loop-drawing.invariant.within c.show.ensures.within

pub returns-clause-layers : goal.returns-clause-layers
returns-clause-layers c =
    ended (scale_of c.args.self.now c.args.inner) c.args.inner c.args.self.now.drawings.now c.args.buf.now _
    c.loop-drawing.painter c.loop-drawing.buf c.show.new.buf c.loop-drawing.invariant c.show.ensures.shown
    (drop_all c.loop-drawing.drawing-index c.args.self.now.drawings.now c.loop-drawing-test.false)
