use Rattle.widget_canvas.proofs.CanvasLemmas.{line-within}
use Rattle.widget_canvas.proofs.label.Label.render.Goals as goal

pub returns-clause-within : goal.returns-clause-within
returns-clause-within c = line-within c.render.result c.args.self.now.line c.area.result c.args.inner c.args.buf.now
    c.render.new.buf c.area.ensures.inside c.render.ensures.ok c.render.ensures.err
