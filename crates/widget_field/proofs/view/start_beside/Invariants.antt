use Rattle.std.proofs.Common.{true, ◌≡◌, ◌+◌, ◌≤◌, ◌⊎◌, ◌++◌, List, [], length, sum_by, ℕ}
use Rattle.std.specs.{List.concat, Str.IsCharBoundary}
use Rattle.unicode_segmentation.specs.{Grapheme.graphemes, Iter.graphemes_left}
use Rattle.ratatui_core.specs.Buffer.{text_width}
use Rattle.widget_field.proofs.view.start_beside.Given as goal

-- the graphemes that were kept, and where they begin
abbrev pub invariant-walk : goal.invariant-walk
invariant-walk l = (kept : List (List ℕ)) × (graphemes_left l.left ++ kept ≡ graphemes true l.text)
    × (l.used ≡ sum_by text_width kept) × (l.used ≤ l.room)
    × (l.start ≡ length (concat (graphemes_left l.left))) × IsCharBoundary l.text l.start
    × ((l.first ≤ l.start) ⊎ ((kept ≡ []) ⊎ (l.used + l.behind ≤ l.room)))

abbrev pub decreases-walk : goal.decreases-walk
decreases-walk l = length (graphemes_left l.left)
