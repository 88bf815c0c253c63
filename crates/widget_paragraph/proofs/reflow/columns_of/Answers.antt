use Rattle.std.proofs.Common.{arith, ap}
use Rattle.std.proofs.lemmas.List.{drop_all}
use Rattle.widget_paragraph.specs.Reflow.{columns_taken}
use Rattle.widget_paragraph.proofs.reflow.columns_of.Goals as goal

pub returns : goal.returns
returns c =
    let i = c.loop-grapheme.invariant in
    let small = i.small in
    let sum = i.sum in
    let none = ap columns_taken (drop_all c.loop-grapheme.grapheme-index c.args.row.now c.loop-grapheme-test.false) in
    omega arith
