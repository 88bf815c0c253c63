use Rattle.std.proofs.Common.{◌≡◌, ◌-◌, ◌≤◌, length, take}
use Rattle.text_area.specs.Lines.{feeds}
use Rattle.text_area.proofs.lines.feeds.Given as goal

abbrev pub invariant-walk : goal.invariant-walk
invariant-walk l = (l.count ≡ feeds (take l.at l.bytes)) × (l.count ≤ l.at) × (l.at ≤ length l.bytes)

abbrev pub decreases-walk : goal.decreases-walk
decreases-walk l = length l.bytes - l.at
