use Rattle.std.proofs.Common.{◌+◌, ◌-◌, arith}
use Rattle.ratatui_core.proofs.WidgetLemmas.{within-then}
use Rattle.pager.proofs.PaintLemmas.{part-ready}
use Rattle.pager.proofs.pager.Pager.paint_status.Goals as goal

pub returns-clause-within : goal.returns-clause-within
returns-clause-within c = within-then c.args.part c.args.buf.now c.paint_text.new.buf c.paint_second.new.buf
    c.paint_text.ensures.within c.paint_second.ensures.within

pub returns-clause-settled : goal.returns-clause-settled
returns-clause-settled c = λ from.
    let first = part-ready c.args.part (c.args.part.y + (c.args.part.height - 1)) c.args.buf.now c.requires.some c.requires.inside
    (omega arith) (omega (arith, c.requires.some)) c.args.part.x (omega arith) from in
    (c.in_ok-paint_second.ensures.ready (c.in_ok-end.ensures.ready first)).settled

pub returns-in_err-paint_second-clause-within : goal.returns-in_err-paint_second-clause-within
returns-in_err-paint_second-clause-within c =
    within-then c.args.part c.args.buf.now c.paint_text.new.buf c.paint_second.new.buf c.paint_text.ensures.within
    c.paint_second.ensures.within
