use Rattle.std.proofs.Common.{true, ◌≡◌, ◌-◌, ◌≤◌, drop}
use Rattle.unicode_segmentation.specs.{Grapheme.graphemes, Iter.graphemes_left}
use Rattle.text_area.proofs.lines.after_columns.Given as goal

abbrev pub invariant-walk : goal.invariant-walk
invariant-walk l = (graphemes_left l.left ≡ drop (l.columns - l.more) (graphemes true l.line))
    × (l.more ≤ l.columns)

abbrev pub decreases-walk : goal.decreases-walk
decreases-walk l = l.more
