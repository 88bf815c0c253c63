use Rattle.std.proofs.Common.{◌≡◌, true, length}
use Rattle.unicode_segmentation.specs.{Grapheme.graphemes, Iter.graphemes_left}
use Rattle.widget_area.specs.Columns.{column_past}
use Rattle.widget_area.proofs.columns.read_past.Given as goal

-- the column after what was read and what is left
abbrev pub invariant-walk : goal.invariant-walk
invariant-walk l = column_past l.tab l.column (graphemes_left l.left) ≡ column_past l.tab l.from (graphemes true l.text)

abbrev pub decreases-walk : goal.decreases-walk
decreases-walk l = length (graphemes_left l.left)
