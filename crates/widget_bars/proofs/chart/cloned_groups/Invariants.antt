use Rattle.std.proofs.Common.{◌≡◌, take, true}
use Rattle.std.specs.Cmp.Lexicographic.{pointwise}
use Rattle.widget_bars.specs.contracts.group.BarGroupPartialEq.TheImpl.{eq-value}
use Rattle.widget_bars.proofs.chart.cloned_groups.Given as goal

abbrev pub invariant-loop-group : goal.invariant-loop-group
invariant-loop-group l = pointwise eq-value.it (take l.group-index l.groups) l.cloned.items ≡ true
