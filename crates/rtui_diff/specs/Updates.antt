-- The updates from one frame to the next.
use Rattle.std.specs.Prelude.{◌≡◌, ◌⊎◌, ℕ, ◌+◌, ◌*◌, ◌/◌, ◌%◌, ◌<◌, false, List, [], ◌∷◌, map, All}
use Rattle.rtui_cell.specs.{declared.cell.Cell.Cell, Cell.is_skipped, Grid.Update}
use Rattle.rtui_diff.specs.{Cells.cell, Cells.cell_at, DiffRule.given, DiffRule.start}

-- the update that gives the cell at a place, if the frame's corner is at (x0, y0) and its rows have w columns
abbrev pub update_at : ℕ → ℕ → ℕ → List Cell → ℕ → Update
update_at x0 y0 w ns i = record { x = x0 + i % w; y = y0 + i / w; cell = cell ns i }

-- the updates from prev to next, over h common rows
abbrev pub updates : ℕ → ℕ → ℕ → ℕ → List Cell → List Cell → List Update
updates x0 y0 w h ps ns = map (update_at x0 y0 w ns) (given ps ns (w * h) start 0)

-- in a row above, or further left in the same row
abbrev pub IsBefore : Update → Update → Type 0
IsBefore u v = (u.y < v.y) ⊎ ((u.y ≡ v.y) × (u.x < v.x))

-- each update stands before all those after it
abbrev pub Rises : List Update → Type 0
Rises [] = Unit {0}
Rises (u ∷ us) = All (IsBefore u) us × Rises us

-- the update gives next's own cell at its place in the common rows, and that is not skipped
pub record IsCellOfNext (x0 y0 w h : ℕ) (ns : List Cell) (u : Update) : Type 0 where
  pub a : ℕ
  pub b : ℕ
  pub in_row : a < w
  pub in_rows : b < h
  pub x : u.x ≡ x0 + a
  pub y : u.y ≡ y0 + b
  pub own : u.cell ≡ cell_at w ns a b
  pub unskipped : is_skipped u.cell ≡ false
