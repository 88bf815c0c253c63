use Rattle.widget_boxes.proofs.FrameLemmas.{if-short}
use Rattle.widget_boxes.proofs.frame.render_if.Goals as goal

pub returns-in-Some-clause-short : goal.returns-in-Some-clause-short
returns-in-Some-clause-short c =
    λ short. c.render.ensures.short (if-short c.args.block.now c.in-Some.block c.args.part c.args.buf.now c.in-Some.is short)
