-- A bar with pieces painted on it, and what a screen shows of them.
use Rattle.std.specs.Prelude.{◌≡◌, ℕ, ◌+◌, ◌<◌, ◌≤◌, nat_lt, if◌then◌else◌, List, length, take}
use Rattle.rtui_geometry.specs.{declared.position.Position.Position, declared.rect.Rect.Rect}
use Rattle.rtui_style.specs.declared.Style.{Style}
use Rattle.rtui_cell.specs.{declared.cell.Cell.Cell, Look.look_of, Cell.empty_cell, Cell.styled, Grid.Grid}
use Rattle.rtui_buffer.specs.{BufferData.BufferData, PaintedText.IsStyled, PaintedText.PaintsPieces}
use Rattle.rtui_buffer.specs.Painting.{Piece, columns, shown, piece_at}

-- the first n columns of the first row of an area
abbrev pub bar_of : ℕ → Rect → Rect
bar_of n area = record area { width = n; height = 1 }

-- a style laid over a bar, and pieces, which may depend on the buffer's area, painted from a position on
pub record PaintsOnBar (bar : Rect) (style : Style) (p : Position) (pieces : Rect → List Piece)
    (old new : BufferData) : Type 0 where
  pub under : BufferData
  pub laid : IsStyled bar style old under
  pub painted : PaintsPieces p (pieces under.area) under new

-- the grid shows pieces one after the other, in at most n columns from a position on: each has its look over
-- the cell that lies under it, and if no piece stands these cells show
pub record ShowsPieces (p : Position) (n : ℕ) (ps : List Piece) (under : ℕ → Cell) (g : Grid) : Type 0 where
  pub pieces : (k : ℕ) → k < length ps → let a = p.x + columns (take k ps) in
      a < p.x + n → g a p.y ≡ look_of (shown (piece_at ps k) (under a))
  pub beside : (a : ℕ) → p.x + columns ps ≤ a → a < p.x + n → g a p.y ≡ look_of (under a)

-- empty cells, in a style as far as a bar goes
abbrev pub bar_cell : Style → ℕ → ℕ → Cell
bar_cell style end a = if nat_lt a end then styled style empty_cell else empty_cell
