-- One buffer laid over another.
use Rattle.std.specs.Prelude.{◌≡◌}
use Rattle.rtui_geometry.specs.{declared.position.Position.Position, declared.rect.Rect.Rect}
use Rattle.rtui_geometry.specs.{Rect.HasPosition, Rect.united}
use Rattle.rtui_cell.specs.Cell.{empty_cell}
use Rattle.rtui_buffer.specs.BufferData.{BufferData, cell_in}

-- the empty area in the corner of the grid
abbrev pub no_area : Rect
no_area = record { x = 0; y = 0; width = 0; height = 0 }

-- on the union of the areas: the upper buffer's cell if it has one, else the lower one's, else an empty cell
pub record IsOverlay (lower upper s : BufferData) : Type 0 where
  pub area : s.area ≡ united lower.area upper.area
  pub of_upper : (p : Position) → HasPosition upper.area p → cell_in s p ≡ cell_in upper p
  pub of_lower : (p : Position) → HasPosition lower.area p → ¬ (HasPosition upper.area p)
      → cell_in s p ≡ cell_in lower p
  pub of_none : (p : Position) → HasPosition s.area p → ¬ (HasPosition lower.area p)
      → ¬ (HasPosition upper.area p) → cell_in s p ≡ empty_cell
