use Rattle.widget_canvas.proofs.NarrowCanvasLemmas.{canvas-plain}
use Rattle.widget_canvas.proofs.laws.canvases_keep_cells_plain.Goals as goal

pub returns : goal.returns
returns c = canvas-plain
