use Rattle.std.proofs.Common.{◌+◌, ◌-◌, arith}
use Rattle.pager.proofs.PaintLemmas.{part-later}
use Rattle.pager.proofs.page.paint_number.Goals as goal

pub returns-clause-ready : goal.returns-clause-ready
returns-clause-ready c = λ ready. c.paint_text.ensures.ready
    (part-later c.args.part c.args.y c.args.buf.now c.requires.some c.requires.inside c.requires.top c.requires.bottom
    c.args.part.x (c.args.part.x + (7 - c.min-count.result)) (omega arith) (omega (arith, c.requires.wide)) ready)
