use Rattle.std.proofs.Common.{arith}
use Rattle.widget_list.specs.Windows.{item_rows}
use Rattle.widget_list.proofs.WindowLemmas.{rows-next, padding-none, padding-full}
use Rattle.widget_list.proofs.window.padding_for.Goals as goal

pub returns-then-rows-height : goal.returns-then-rows-height
returns-then-rows-height c =
    padding-none c.args.items.now c.args.height c.args.asked c.args.selected (item_rows c.index-items-selected.result) c.requires
    (rows-next c.args.items.now c.args.selected c.index-items-selected.result c.requires c.index-items-selected.is)
    (omega (arith, c.height-rows.ensures))

pub returns-then-above-left : goal.returns-then-above-left
returns-then-above-left c =
    padding-full c.args.items.now c.args.height c.args.asked c.args.selected c.loop-padding.padding c.loop-padding.left
    c.rows_above-above.result c.rows_below-below.result c.loop-padding.invariant.most c.loop-padding.invariant.rows
    c.rows_above-above.ensures c.rows_below-below.ensures (omega arith)

pub returns-then-below-left : goal.returns-then-below-left
returns-then-below-left c =
    padding-full c.args.items.now c.args.height c.args.asked c.args.selected c.loop-padding.padding c.loop-padding.left
    c.rows_above-above.result c.rows_below-below.result c.loop-padding.invariant.most c.loop-padding.invariant.rows
    c.rows_above-above.ensures c.rows_below-below.ensures (omega arith)
