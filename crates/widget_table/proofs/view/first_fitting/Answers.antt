use Rattle.std.proofs.Common.{arith}
use Rattle.widget_table.specs.Rows.{full_height}
use Rattle.widget_table.proofs.ViewLemmas.{before-next, row-alone, row-before}
use Rattle.widget_table.proofs.view.first_fitting.Goals as goal

pub returns-then-shown-height : goal.returns-then-shown-height
returns-then-shown-height c = row-alone c.args.rows.now c.args.height c.args.least c.args.last c.args.shown c.requires.order
    c.if-shown-height.true

pub returns-then-rows_of_one-left : goal.returns-then-rows_of_one-left
returns-then-rows_of_one-left c =
    row-before c.args.rows.now c.args.height c.args.least c.args.last c.args.shown c.loop-first.first c.loop-first.left
    (full_height c.index-rows-first.result) (omega arith) c.loop-first.invariant.to c.loop-first.invariant.rows
    (before-next c.args.rows.now _ c.index-rows-first.result (omega arith) c.index-rows-first.is)
    (omega (arith, c.height_with_margin-rows_of_one.ensures.value))
