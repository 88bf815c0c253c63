use Rattle.std.proofs.Common.{arith}
use Rattle.widget_table.specs.contracts.row.RowPartialEq.TheImpl.{eq-value}
use Rattle.widget_boxes.proofs.CloneLemmas.{pairs-next}
use Rattle.widget_table.proofs.table.cloned_rows.Goals as goal

pub loop-row-preserved : goal.loop-row-preserved
loop-row-preserved c =
    rw c.in_ok-push.ensures.items (pairs-next eq-value.it c.args.rows.now c.loop-row.cloned.items c.loop-row.row-index
    c.row-item.result c.in_ok-clone.field-0 (omega arith) c.row-item.is c.in_ok-clone.ensures c.loop-row.invariant)
