use Rattle.std.proofs.Common.{◌≡◌, ◌+◌, ◌≤◌, length, sum_by}
use Rattle.unicode_segmentation.specs.Iter.{graphemes_left}
use Rattle.ratatui_core.specs.Buffer.{text_width}
use Rattle.widget_field.specs.Views.{columns_in}
use Rattle.widget_field.proofs.view.columns_up_to.Given as goal

-- the columns that were counted, and those that are left
abbrev pub invariant-walk : goal.invariant-walk
invariant-walk l = (l.used + sum_by text_width (graphemes_left l.left) ≡ columns_in l.text) × (l.used ≤ l.most)

abbrev pub decreases-walk : goal.decreases-walk
decreases-walk l = length (graphemes_left l.left)
