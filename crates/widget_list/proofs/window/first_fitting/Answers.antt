use Rattle.std.proofs.Common.{arith}
use Rattle.widget_list.specs.Windows.{item_rows}
use Rattle.widget_list.proofs.WindowLemmas.{rows-next, first-alone, first-before}
use Rattle.widget_list.proofs.window.first_fitting.Goals as goal

pub returns-then-rows-height : goal.returns-then-rows-height
returns-then-rows-height c =
    first-alone c.args.items.now c.args.height c.args.least c.args.last (item_rows c.index-items-last.result) c.requires.order
    (rows-next c.args.items.now c.args.last c.index-items-last.result c.requires.inside c.index-items-last.is)
    (omega (arith, c.height-rows.ensures))

pub returns-then-rows-left : goal.returns-then-rows-left
returns-then-rows-left c =
    first-before c.args.items.now c.args.height c.args.least c.args.last c.loop-first.first c.loop-first.left
    (item_rows c.index-items-first.result) (omega arith) c.loop-first.invariant.to c.loop-first.invariant.rows
    (rows-next c.args.items.now _ c.index-items-first.result (omega arith) c.index-items-first.is)
    (omega (arith, c.height-rows-in-loop-first.ensures))
