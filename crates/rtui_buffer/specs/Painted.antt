-- The cells that painting makes, cell after cell.
use Rattle.std.specs.Prelude.{ℕ, ◌+◌, ◌-◌, suc, zero, List, [], ◌∷◌, slice_set}
use Rattle.rtui_cell.specs.{declared.cell.Cell.Cell, Cell.empty_cell}
use Rattle.rtui_diff.specs.Cells.{cell}
use Rattle.rtui_buffer.specs.Painting.{Piece, piece_width, shown}

-- the cells with n empty ones from a place on
unfoldable pub emptied : ℕ → ℕ → List Cell → List Cell
emptied at zero cells = cells
emptied at (suc n) cells = emptied (at + 1) n (slice_set cells at empty_cell)

-- the cells with a piece at a place, and empty cells in the other columns that it takes
unfoldable pub with_piece : ℕ → Piece → List Cell → List Cell
with_piece at p cells = emptied (at + 1) (piece_width p - 1) (slice_set cells at (shown p (cell cells at)))

-- the cells with pieces from a place on, one after the other
unfoldable pub painted : ℕ → List Piece → List Cell → List Cell
painted at [] cells = cells
painted at (p ∷ ps) cells = painted (at + piece_width p) ps (with_piece at p cells)
