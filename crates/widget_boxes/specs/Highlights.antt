-- A highlight: a style over an area, but for the columns that its wide symbols cover.
use Rattle.std.specs.Prelude.{◌≡◌, ℕ, ◌+◌, ◌<◌, ◌⊎◌}
use Rattle.ratatui_core.specs.Layout.{Rect, Position, HasPosition}
use Rattle.ratatui_core.specs.Style.{Style}
use Rattle.ratatui_core.specs.Buffer.{BufferData, cell_in, position_of, styled, width_of}

-- the symbol of a column of the area, before this position in its row, reaches over it
pub record IsContinuation (r : Rect) (s : BufferData) (p : Position) : Type 0 where
  pub column : ℕ
  pub before : column < p.x
  pub own : HasPosition s.area (position_of (column, p.y))
  pub there : HasPosition r (position_of (column, p.y))
  pub reaches : p.x < column + width_of (cell_in s (position_of (column, p.y)))

-- a cell that a highlight leaves as it was, since a symbol reaches over it, or lays its style over
abbrev pub IsLitAt : Rect → Style → BufferData → BufferData → Position → Type 0
IsLitAt r style old new p =
    (IsContinuation r old p × (cell_in new p ≡ cell_in old p))
    ⊎ ((¬ (IsContinuation r old p)) × (cell_in new p ≡ styled style (cell_in old p)))

-- the buffer with an area highlighted in a style; all else is as before
pub record IsHighlighted (r : Rect) (style : Style) (old new : BufferData) : Type 0 where
  pub area : new.area ≡ old.area
  pub room : new.room ≡ old.room
  pub inside : (p : Position) → HasPosition old.area p → HasPosition r p → IsLitAt r style old new p
  pub outside : (p : Position) → HasPosition old.area p → ¬ (HasPosition r p) → cell_in new p ≡ cell_in old p
