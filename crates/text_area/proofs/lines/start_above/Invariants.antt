use Rattle.std.proofs.Common.{◌≡◌, ◌-◌, take}
use Rattle.text_area.specs.{Lines.feeds, Inner.BeginsLine}
use Rattle.text_area.proofs.lines.start_above.Given as goal

abbrev pub invariant-walk : goal.invariant-walk
invariant-walk l = BeginsLine l.text l.top
    × (feeds (take l.top l.text) - l.left ≡ feeds (take l.at l.text) - l.lines)

abbrev pub decreases-walk : goal.decreases-walk
decreases-walk l = l.left
