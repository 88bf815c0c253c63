-- What private functions promise one another.
use Rattle.std.specs.Prelude.{◌≡◌, ℕ, ◌+◌, ◌-◌, ◌<◌, ◌≤◌, ◌&&◌, nat_le, nat_lt, if◌then◌else◌, List, [], ◌++◌}
use Rattle.std.specs.Prelude.{length, Result, IsOk, OnOk}
use Rattle.std.specs.declared.alloc.AllocError.{AllocError}
use Rattle.rtui_geometry.specs.{declared.position.Position.Position, declared.rect.Rect.Rect}
use Rattle.rtui_geometry.specs.{Rect.HasPosition}
use Rattle.rtui_cell.specs.{declared.cell.Cell.Cell, Cell.empty_cell, Cell.styled}
use Rattle.rtui_grid.specs.{declared.block.Block.Block, Blocks.HasBlock}
use Rattle.rtui_buffer.specs.{BufferData.BufferData, BufferData.cell_in, Painting.IsSameOutside}
use Rattle.rtui_buffer.specs.{Painting.Piece, Painted.painted, PaintedText.AreShort}
use Rattle.rtui_style.specs.declared.Style.{Style}
use Rattle.rtui_diff.specs.Cells.{cell, cell_at}

-- the first rectangle spans the second
pub record IsAround (outer inner : Rect) : Type 0 where
  pub left : outer.x ≤ inner.x
  pub right : inner.x + inner.width ≤ outer.x + outer.width
  pub top : outer.y ≤ inner.y
  pub bottom : inner.y + inner.height ≤ outer.y + outer.height

-- the sheet over another area: its cells where they stood, else empty ones
pub record IsExtended (area : Rect) (old new : BufferData) : Type 0 where
  pub over : new.area ≡ area
  pub of_old : (p : Position) → HasPosition old.area p → cell_in new p ≡ cell_in old p
  pub of_none : (p : Position) → HasPosition area p → ¬ (HasPosition old.area p) → cell_in new p ≡ empty_cell

-- where an inner area is in the rows and columns of one around it
abbrev pub place_in : Rect → Rect → Block
place_in outer inner = record {
  left = inner.x - outer.x;
  top = inner.y - outer.y;
  columns = inner.width;
  rows = inner.height;
}

-- in the list of an area: the cells of an inner area at their positions, all else as before
abbrev pub HasInner : Rect → Rect → List Cell → List Cell → List Cell → Type 0
HasInner outer inner block old new =
    HasBlock empty_cell outer.width (place_in outer inner) inner.width block old new

-- the cells of a part with a style laid over them
pub record IsStyledPart (from to : ℕ) (s : Style) (old new : List Cell) : Type 0 where
  pub inside : (k : ℕ) → from ≤ k → k < to → cell new k ≡ styled s (cell old k)
  pub outside : IsSameOutside from to old new

-- in rows of w columns: the cells of some columns of some rows with a style laid over them, all else as
-- before
pub record IsStyledRows (w left right top bottom : ℕ) (s : Style) (old new : List Cell) : Type 0 where
  pub count : length new ≡ length old
  pub at : (a b : ℕ) → a < w → cell_at w new a b ≡
      (if nat_le left a && nat_lt a right && nat_le top b && nat_lt b bottom then styled s
      (cell_at w old a b) else cell_at w old a b)

-- a front of these pieces is painted from a place on: all of them if it is Ok, and it is if they are short
pub record PaintsCells {A : Type 0} (at : ℕ) (ps : List Piece) (result : Result A AllocError)
    (old new : List Cell) : Type 0 where
  pub front : List Piece
  pub rest : List Piece
  pub is : ps ≡ front ++ rest
  pub cells : new ≡ painted at front old
  pub all : OnOk result (rest ≡ [])
  pub short : AreShort ps → IsOk result
