use Rattle.std.proofs.Common.{◌≡◌, take, map}
use Rattle.widget_bars.specs.BarCharts.{raw_bar}
use Rattle.widget_bars.proofs.group.raw_bars.Given as goal

abbrev pub invariant-loop-bar : goal.invariant-loop-bar
invariant-loop-bar l = l.made.items ≡ map raw_bar (take l.bar-index l.bars)
