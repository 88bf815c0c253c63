use Rattle.std.proofs.Common.{true, ◌≡◌, ◌≤◌, ◌++◌, List, length, sum_by, ℕ}
use Rattle.std.specs.{List.concat, Str.IsCharBoundary}
use Rattle.unicode_segmentation.specs.{Grapheme.graphemes, Iter.graphemes_left}
use Rattle.rtui_cell.specs.Width.{text_columns}
use Rattle.rtui_widgets.proofs.line.end_of.Given as goal

-- the graphemes that were taken, and where they begin
abbrev pub invariant-loop-grapheme : goal.invariant-loop-grapheme
invariant-loop-grapheme l = (kept : List (List ℕ)) × (graphemes_left l.left ++ kept ≡ graphemes true l.text)
    × (l.width ≡ sum_by text_columns kept) × (l.width ≤ l.room)
    × (l.start ≡ length (concat (graphemes_left l.left))) × IsCharBoundary l.text l.start

abbrev pub decreases-loop-grapheme : goal.decreases-loop-grapheme
decreases-loop-grapheme l = length (graphemes_left l.left)
