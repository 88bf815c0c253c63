use Rattle.std.proofs.Common.{◌+◌, arith}
use Rattle.widget_boxes.proofs.BoxLemmas.{inside-within}
use Rattle.pager.proofs.PaintLemmas.{part-ready, part-later, numbers-fit}
use Rattle.pager.proofs.page.paint_number_if.Goals as goal

pub returns-then-columns-eq0-clause-ready : goal.returns-then-columns-eq0-clause-ready
returns-then-columns-eq0-clause-ready c =
    part-ready c.args.part c.args.y c.args.buf.now c.requires.some c.requires.inside c.requires.top c.requires.bottom
    (c.args.part.x + c.args.columns) (omega (arith, numbers-fit c.args.columns c.args.part.width c.requires.wide))

pub returns-clause-ready : goal.returns-clause-ready
returns-clause-ready c = λ from.
    let wide = c.requires.wide (omega arith) in
    let eight = wide.0 in
    let room = wide.1 in
    let first = part-ready c.args.part c.args.y c.args.buf.now c.requires.some c.requires.inside c.requires.top c.requires.bottom
    c.args.part.x (omega arith) from in
    part-later c.args.part c.args.y c.paint_number.new.buf c.requires.some
    (inside-within c.args.part c.args.buf.now c.paint_number.new.buf c.requires.inside c.paint_number.ensures.within)
    c.requires.top c.requires.bottom
    c.in_ok-paint_number.field-0 (c.args.part.x + c.args.columns) (omega (arith, c.in_ok-paint_number.ensures.fits)) (omega arith)
    (c.in_ok-paint_number.ensures.ready first)
