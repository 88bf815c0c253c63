use Rattle.std.proofs.Common.{◌≡◌, take}
use Rattle.widget_bars.proofs.group.cloned_bars.Given as goal

abbrev pub invariant-loop-bar : goal.invariant-loop-bar
invariant-loop-bar l = l.cloned.items ≡ take l.bar-index l.bars
