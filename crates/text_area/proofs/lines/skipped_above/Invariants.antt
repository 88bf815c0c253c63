use Rattle.std.proofs.Common.{◌≡◌, ◌+◌, ◌≤◌, take}
use Rattle.text_area.specs.Lines.{feeds}
use Rattle.text_area.proofs.lines.skipped_above.Given as goal

abbrev pub invariant-walk : goal.invariant-walk
invariant-walk l = (l.top ≤ l.at)
    × (feeds (take l.top l.bytes) + l.lines ≡ feeds (take l.at l.bytes) + l.left)

abbrev pub decreases-walk : goal.decreases-walk
decreases-walk l = l.top
