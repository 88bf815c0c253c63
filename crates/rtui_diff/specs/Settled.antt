-- Settled frames: those that a screen can show as they are.
use Rattle.std.specs.Prelude.{◌≡◌, ◌⊎◌, ℕ, ◌+◌, ◌%◌, ◌<◌, ◌≤◌, true, false, List}
use Rattle.rtui_cell.specs.{declared.cell.Cell.Cell, Cell.empty_cell, Cell.width_of, Cell.is_skipped}
use Rattle.rtui_cell.specs.{Equality.is_same}
use Rattle.rtui_diff.specs.Cells.{cell, cell_at}

-- equal to the empty cell, or skipped
abbrev pub IsBlankOrSkipped : Cell → Type 0
IsBlankOrSkipped c = (is_same c empty_cell ≡ true) ⊎ (is_skipped c ≡ true)

-- a skipped cell takes at most one column, any other ends within its row, and after it stand only empty or
-- skipped cells
pub record IsSettled (w h : ℕ) (cells : List Cell) : Type 0 where
  pub skipped : (a b : ℕ) → a < w → b < h → is_skipped (cell_at w cells a b) ≡ true
      → width_of (cell_at w cells a b) ≤ 1
  pub within : (a b : ℕ) → a < w → b < h → is_skipped (cell_at w cells a b) ≡ false
      → a + width_of (cell_at w cells a b) ≤ w
  pub behind : (a b k : ℕ) → a < w → b < h → is_skipped (cell_at w cells a b) ≡ false → a < k
      → k < a + width_of (cell_at w cells a b) → IsBlankOrSkipped (cell_at w cells k b)

-- what a settled frame asks of the cell at place i of the list
pub record IsSettledAt (w : ℕ) (cells : List Cell) (i : ℕ) : Type 0 where
  pub skipped : is_skipped (cell cells i) ≡ true → width_of (cell cells i) ≤ 1
  pub within : is_skipped (cell cells i) ≡ false → i % w + width_of (cell cells i) ≤ w
  pub behind : is_skipped (cell cells i) ≡ false → (k : ℕ) → i < k → k < i + width_of (cell cells i)
      → IsBlankOrSkipped (cell cells k)
