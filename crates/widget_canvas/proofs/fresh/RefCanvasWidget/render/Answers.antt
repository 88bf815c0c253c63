use Rattle.widget_canvas.proofs.KeptLemmas.{kept-ok}
use Rattle.widget_canvas.proofs.fresh.RefCanvasWidget.render.Goals as goal

pub returns-clause-ok : goal.returns-clause-ok
returns-clause-ok c = kept-ok c.render.result c.args.self.now _ _ c.args.area c.args.buf.now c.render.new.buf c.render.ensures.ok
