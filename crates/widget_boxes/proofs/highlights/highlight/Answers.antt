use Rattle.widget_boxes.proofs.HighlightLemmas.{area-lit}
use Rattle.widget_boxes.proofs.highlights.highlight.Goals as goal

pub returns-in-Some : goal.returns-in-Some
returns-in-Some c =
    area-lit c.args.style c.args.area c.in-Some.part c.args.buf.now c.highlight_part.new.buf c.in-Some.ensures c.highlight_part.ensures
