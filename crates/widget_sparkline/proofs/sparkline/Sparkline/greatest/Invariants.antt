use Rattle.std.proofs.Common.{◌≡◌, max, drop}
use Rattle.widget_sparkline.specs.Sparklines.{greatest_value}
use Rattle.widget_sparkline.proofs.sparkline.Sparkline.greatest.Given as goal

abbrev pub invariant-loop-bar : goal.invariant-loop-bar
invariant-loop-bar l = max l.greatest (greatest_value (drop l.bar-index l.fn.self.bars.items)) ≡ greatest_value
    l.fn.self.bars.items
