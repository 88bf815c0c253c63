use Rattle.std.proofs.Common.{length, arith, ap}
use Rattle.widget_paragraph.proofs.RowsLemmas.{lines-none}
use Rattle.widget_paragraph.proofs.paragraph.Paragraph.count_broken_rows.Goals as goal

pub returns : goal.returns
returns c =
    let small = c.loop-line.invariant.small in
    let rows = c.loop-line.invariant.rows in
    let none = ap length (lines-none c.args.self.now c.args.width c.args.wrap c.as_slice-line-items.result.now
    c.loop-line.line-index c.loop-line-test.false) in
    omega arith
