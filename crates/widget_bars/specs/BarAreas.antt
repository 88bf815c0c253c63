-- Where bars stand: side by side, or one under the other.
use Rattle.std.specs.Prelude.{ℕ, ◌+◌, min}
use Rattle.ratatui_core.specs.{Layout.Rect}
use Rattle.ratatui_core.specs.declared.layout.Direction.{Direction}
use Rattle.ratatui_core.specs.declared.layout.Direction.TheVariants.{Horizontal, Vertical}
use Rattle.rtui_drawing.specs.declared.cut.Cut.{Cut}
use Rattle.rtui_drawing.specs.declared.cut.Cut.TheVariants.{First, After, Rows, Below}

-- how many cells an area has from bar to bar: vertical bars stand side by side, horizontal ones one under the
-- other
abbrev pub cells_along : Direction → Rect → ℕ
cells_along Vertical r = r.width
cells_along Horizontal r = r.height

-- where a bar stands that is so many cells wide, and the part after so many cells
abbrev pub bar_cut : Direction → ℕ → Cut
bar_cut Vertical n = First n
bar_cut Horizontal n = Rows 0 n

abbrev pub behind_cut : Direction → ℕ → Cut
behind_cut Vertical n = After n
behind_cut Horizontal n = Below n

-- the part right of labels of n columns and of a blank column; all of an area, if they have none
abbrev pub beside_labels : ℕ → Cut
beside_labels n = After (min (n + min n 1) 65535)
