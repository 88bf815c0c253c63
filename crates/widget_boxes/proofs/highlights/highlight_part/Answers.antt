use Rattle.std.proofs.Common.{arith}
use Rattle.widget_boxes.proofs.HighlightLemmas.{row-lit}
use Rattle.widget_boxes.proofs.highlights.highlight_part.Goals as goal

pub loop-y-preserved : goal.loop-y-preserved
loop-y-preserved c =
    row-lit c.args.style c.args.part c.args.buf.now c.requires c.loop-y.y c.loop-y.buf c.highlight_row.new.buf (omega arith) (omega arith)
    c.loop-y.invariant c.highlight_row.ensures
