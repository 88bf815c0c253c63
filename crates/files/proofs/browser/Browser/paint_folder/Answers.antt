use Rattle.std.proofs.Common.{◌+◌, ◌-◌, arith, subst, sym}
use Rattle.ratatui_core.specs.Buffer.{IsReadyAt}
use Rattle.files.specs.Columns.{ahead_start}
use Rattle.files.proofs.PaintLemmas.{text-ready}
use Rattle.files.proofs.browser.Browser.paint_folder.Goals as goal

pub returns-clause-ready : goal.returns-clause-ready
returns-clause-ready c = λ from.
    let part = c.args.part in let wide = c.requires.wide in let same = c.above_width.ensures in
    let wider = c.folder_width-width.ensures in
    text-ready c.paint_text.result (part.x + c.above_width.result + (c.folder_width-width.result - 1)) (part.x + part.width)
    (part.y + c.args.k) (part.x + ahead_start part.width) c.paint_text.new.buf
    (c.paint_text.ensures.ready (subst (λ n. IsReadyAt (part.x + n) (part.y + c.args.k) c.args.buf.now) (sym same) from))
    (omega arith) (omega arith)
