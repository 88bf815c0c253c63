use Rattle.std.proofs.Common.{arith}
use Rattle.widget_bars.specs.contracts.group.BarGroupPartialEq.TheImpl.{eq-value}
use Rattle.widget_boxes.proofs.CloneLemmas.{pairs-next}
use Rattle.widget_bars.proofs.chart.cloned_groups.Goals as goal

pub loop-group-preserved : goal.loop-group-preserved
loop-group-preserved c =
    rw c.in_ok-push.ensures.items (pairs-next eq-value.it c.args.groups.now c.loop-group.cloned.items c.loop-group.group-index
    c.group-item.result c.in_ok-clone.field-0 (omega arith) c.group-item.is c.in_ok-clone.ensures c.loop-group.invariant)
