use Rattle.widget_canvas.proofs.CanvasLemmas.{shape-drawn, layer-drawn}
use Rattle.widget_canvas.proofs.canvas.draw_next.Goals as goal

pub returns-then-not-is_layer-clause-draws : goal.returns-then-not-is_layer-clause-draws
returns-then-not-is_layer-clause-draws c =
    shape-drawn c.args.drawing.now c.args.inner c.args.painter.now c.draw.new.painter c.is_layer.result c.is_layer.ensures
    c.args.buf.now c.if-not-is_layer.true c.draw.ensures

pub returns-clause-draws : goal.returns-clause-draws
returns-clause-draws c =
    layer-drawn c.args.drawing.now c.args.inner c.args.painter.now c.clear.new.self c.is_layer.result c.is_layer.ensures
    c.args.buf.now c.show.new.buf c.if-not-is_layer.false c.show.ensures.shown c.clear.ensures.cells c.clear.ensures.scale
