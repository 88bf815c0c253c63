-- Plain cells, of which a settled buffer can be painted on.
use Rattle.std.specs.Prelude.{◌≡◌, ℕ, ◌+◌, ◌<◌, ◌≤◌, ◌⊎◌, false}
use Rattle.rtui_buffer.specs.{Shown.IsSettledBuffer, BufferData.BufferData, BufferData.cell_in}
use Rattle.rtui_buffer.specs.{BufferData.position_of}
use Rattle.rtui_cell.specs.{Cell.width_of, Cell.is_skipped, Cell.IsUnmarked, declared.cell.Cell.Cell}
use Rattle.rtui_geometry.specs.{Rect.HasPosition, Rect.EdgesFit, declared.position.Position.Position}
use Rattle.rtui_geometry.specs.{declared.rect.Rect.Rect}

-- at most one column, no option and no flag
pub record IsPlain (c : Cell) : Type 0 where
  pub narrow : width_of c ≤ 1
  pub unmarked : IsUnmarked c

-- each cell of an area is plain
abbrev pub IsPlainOver : Rect → BufferData → Type 0
IsPlainOver r s = (p : Position) → HasPosition s.area p → HasPosition r p → IsPlain (cell_in s p)

-- each cell is plain, from a row on
abbrev pub IsPlainFrom : ℕ → BufferData → Type 0
IsPlainFrom y s = (p : Position) → HasPosition s.area p → y ≤ p.y → IsPlain (cell_in s p)

-- a settled buffer that may be painted from a column of a row on: from there each cell is plain, and no cell
-- before reaches there
pub record IsReadyAt (x y : ℕ) (s : BufferData) : Type 0 where
  pub edges : EdgesFit s.area
  pub settled : IsSettledBuffer s
  pub plain : (p : Position) → HasPosition s.area p → (y < p.y) ⊎ ((p.y ≡ y) × (x ≤ p.x))
      → IsPlain (cell_in s p)
  pub before : (a : ℕ) → s.area.x ≤ a → a < x → is_skipped (cell_in s (position_of (a, y))) ≡ false
      → a + width_of (cell_in s (position_of (a, y))) ≤ x

-- a settled buffer that may be painted from a row on
pub record IsReadyFrom (y : ℕ) (s : BufferData) : Type 0 where
  pub edges : EdgesFit s.area
  pub settled : IsSettledBuffer s
  pub plain : IsPlainFrom y s
