use Rattle.std.proofs.Common.{◌≡◌, ◌+◌, ◌-◌, ◌≤◌, length, take}
use Rattle.text_area.specs.Lines.{feeds}
use Rattle.text_area.proofs.lines.skipped_below.Given as goal

abbrev pub invariant-walk : goal.invariant-walk
invariant-walk l = (l.end ≤ length l.bytes)
    × (feeds (take l.end l.bytes) + l.left ≡ feeds (take l.at l.bytes) + l.lines)

abbrev pub decreases-walk : goal.decreases-walk
decreases-walk l = length l.bytes - l.end
