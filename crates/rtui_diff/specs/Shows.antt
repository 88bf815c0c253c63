-- What it means that a grid shows a frame, that a row agrees with a frame's row, and that updates bring a
-- frame on a grid.
use Rattle.std.specs.Prelude.{◌≡◌, ◌⊎◌, ℕ, ◌+◌, ◌*◌, ◌<◌, ◌≤◌, Bool, false, not, List, map, filter, length}
use Rattle.std.specs.Prelude.{slice_index_or}
use Rattle.std.specs.List.{range_with_len}
use Rattle.rtui_cell.specs.{declared.cell.Cell.Cell, Look.Look, Look.empty_look, Look.look_of, Cell.width_of}
use Rattle.rtui_cell.specs.{Cell.is_skipped}
use Rattle.rtui_cell.specs.Grid.{Grid, Update, puts}
use Rattle.rtui_diff.specs.{Cells.cell, Cells.cell_at, Updates.update_at}

-- an unskipped cell has its look in its column, and the columns after it that it covers have the empty look
pub record ShowsColumn (w : ℕ) (cells : List Cell) (a b : ℕ) (seen : Look) : Type 0 where
  pub look : is_skipped (cell_at w cells a b) ≡ false → seen ≡ look_of (cell_at w cells a b)
  pub behind : (j : ℕ) → j < a → is_skipped (cell_at w cells j b) ≡ false
      → a < j + width_of (cell_at w cells j b) → seen ≡ empty_look

-- the grid shows the cells over the area with its corner at (x0, y0)
pub record Shows (x0 y0 w h : ℕ) (cells : List Cell) (g : Grid) : Type 0 where
  pub at : (a b : ℕ) → a < w → b < h → ShowsColumn w cells a b (g (x0 + a) (y0 + b))

-- a row of looks agrees with row b of the cells: as many columns, and each unskipped column has its cell's
-- look
pub record RowAgrees (w : ℕ) (cells : List Cell) (b : ℕ) (row : List Look) : Type 0 where
  pub width : length row ≡ w
  pub at : (a : ℕ) → a < w → is_skipped (cell_at w cells a b) ≡ false
      → slice_index_or row a empty_look ≡ look_of (cell_at w cells a b)

abbrev pub is_unskipped : List Cell → ℕ → Bool
is_unskipped ns i = not (is_skipped (cell ns i))

-- every unskipped cell, row by row
abbrev pub repaint : ℕ → ℕ → ℕ → ℕ → List Cell → List Update
repaint x0 y0 w h ns = map (update_at x0 y0 w ns) (filter (is_unskipped ns) (range_with_len 0 (w * h)))

-- a full repaint over an area shows the cells there, whatever the grid had
pub record Repaints (w h : ℕ) (ns : List Cell) : Type 0 where
  pub shows : (W H x0 y0 : ℕ) (g : Grid) → x0 + w ≤ W → y0 + h ≤ H
      → Shows x0 y0 w h ns (puts W H (repaint x0 y0 w h ns) g)

-- putting the updates on a screen that shows prev over the area gives one that shows next there, and is the
-- same elsewhere
pub record Replays (x0 y0 w h : ℕ) (ps ns : List Cell) (us : List Update) : Type 0 where
  pub shows : (W H : ℕ) (g : Grid) → x0 + w ≤ W → y0 + h ≤ H → Shows x0 y0 w h ps g
      → Shows x0 y0 w h ns (puts W H us g)
  pub outside : (W H : ℕ) (g : Grid) → x0 + w ≤ W → y0 + h ≤ H → (a b : ℕ)
      → (a < x0) ⊎ (x0 + w ≤ a) ⊎ (b < y0) ⊎ (y0 + h ≤ b) → puts W H us g a b ≡ g a b
