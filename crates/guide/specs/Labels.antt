-- A text painted on an empty buffer, and what a screen then shows.
use Rattle.std.specs.Prelude.{◌≡◌, ℕ, ◌+◌, ◌<◌, List, length, take}
use Rattle.ratatui_core.specs.Layout.{Rect, Position, HasPosition}
use Rattle.ratatui_core.specs.Buffer.{Grid, BufferData, IsEmptied, ShowsBuffer, PaintsPieces, right_by, Piece}
use Rattle.ratatui_core.specs.Buffer.{columns, shown, piece_at, look_of, empty_cell}

-- the grid shows an empty buffer of this area with these pieces painted at a position
pub record ShowsLabel (area : Rect) (p : Position) (ps : List Piece) (g : Grid) : Type 0 where
  pub blank : BufferData
  pub emptied : IsEmptied area blank
  pub sheet : BufferData
  pub painted : PaintsPieces p ps blank sheet
  pub shown : ShowsBuffer sheet g

-- each piece has its look at the sum of the widths before it
pub record StandsAt (area : Rect) (p : Position) (ps : List Piece) (g : Grid) : Type 0 where
  pub looks : (k : ℕ) → k < length ps → HasPosition area (right_by (columns (take k ps)) p)
      → g (p.x + columns (take k ps)) p.y ≡ look_of (shown (piece_at ps k) empty_cell)
