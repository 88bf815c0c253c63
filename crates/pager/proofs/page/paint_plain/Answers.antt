use Rattle.std.proofs.Common.{arith}
use Rattle.pager.proofs.PaintLemmas.{part-ready}
use Rattle.pager.proofs.page.paint_plain.Goals as goal

pub returns-clause-ready : goal.returns-clause-ready
returns-clause-ready c = λ from.
    c.paint_line.ensures.ready (part-ready c.args.part c.args.y c.args.buf.now c.requires.some c.requires.inside c.requires.top
    c.requires.bottom c.args.part.x (omega arith) from)
