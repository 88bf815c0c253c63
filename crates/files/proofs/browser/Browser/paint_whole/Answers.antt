use Rattle.std.proofs.Common.{◌+◌, arith}
use Rattle.files.proofs.PaintLemmas.{text-ready}
use Rattle.files.proofs.browser.Browser.paint_whole.Goals as goal

pub returns-clause-ready : goal.returns-clause-ready
returns-clause-ready c = λ from.
    let part = c.args.part in
    text-ready c.paint_text.result (part.x + (part.width)) (part.x + part.width) (part.y + c.args.k) (part.x + part.width) c.paint_text.new.buf
    (c.paint_text.ensures.ready from) (omega arith) (omega arith)
