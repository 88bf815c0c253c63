use Rattle.std.proofs.Common.{◌+◌, ◌-◌, arith}
use Rattle.files.specs.Columns.{above_width}
use Rattle.files.proofs.PaintLemmas.{text-ready}
use Rattle.files.proofs.browser.Browser.paint_above.Goals as goal

pub returns-clause-ready : goal.returns-clause-ready
returns-clause-ready c = λ from.
    let part = c.args.part in let wide = c.requires.wide in let same = c.above_width-width.ensures in
    text-ready c.paint_text.result (part.x + (c.above_width-width.result - 1)) (part.x + part.width) (part.y + c.args.k)
    (part.x + above_width part.width) c.paint_text.new.buf (c.paint_text.ensures.ready from) (omega arith) (omega arith)
