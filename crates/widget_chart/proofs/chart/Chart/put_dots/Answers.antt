use Rattle.widget_chart.proofs.PlotLemmas.{canvas-done}
use Rattle.widget_chart.proofs.chart.Chart.put_dots.Goals as goal

pub returns : goal.returns
returns c =
    canvas-done c.args.self.now c.args.dataset.now c.canvas-canvas.result c.args.graph c.args.buf.now c.render.new.buf
    c.canvas-canvas.ensures c.requires.some c.requires.part c.render.result c.render.ensures.ok c.render.ensures.err
