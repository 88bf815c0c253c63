use Rattle.std.proofs.Common.{drop}
use Rattle.widget_canvas.specs.Canvases.{scale_of}
use Rattle.widget_canvas.proofs.CanvasLemmas.{IsDrawn}
use Rattle.widget_canvas.proofs.canvas.Canvas.render_layers.Given as goal

abbrev pub invariant-loop-drawing : goal.invariant-loop-drawing
invariant-loop-drawing l = IsDrawn (scale_of l.fn.self l.fn.inner) l.fn.inner l.drawing-items
    (drop l.drawing-index l.drawing-items) l.fn.buf l.painter l.buf
