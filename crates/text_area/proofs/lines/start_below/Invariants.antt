use Rattle.std.proofs.Common.{◌≡◌, ◌+◌, ◌≤◌, length, take}
use Rattle.text_area.specs.Lines.{feeds}
use Rattle.text_area.proofs.lines.start_below.Given as goal

abbrev pub invariant-walk : goal.invariant-walk
invariant-walk l = (l.place ≤ length l.text)
    × (feeds (take l.place l.text) + l.left ≡ feeds (take l.at l.text) + l.lines)

abbrev pub decreases-walk : goal.decreases-walk
decreases-walk l = l.left
