-- A change of each cell of an area, by its position.
use Rattle.std.specs.Prelude.{◌≡◌}
use Rattle.rtui_geometry.specs.{declared.rect.Rect.Rect, declared.position.Position.Position}
use Rattle.rtui_geometry.specs.{Rect.HasPosition}
use Rattle.rtui_cell.specs.declared.cell.Cell.{Cell}
use Rattle.rtui_buffer.specs.BufferData.{BufferData, cell_in}

-- the buffer with each cell of an area that it has changed by f, and all else as before
pub record ChangesEach (r : Rect) (f : Position → Cell → Cell) (old new : BufferData) : Type 0 where
  pub area : new.area ≡ old.area
  pub room : new.room ≡ old.room
  pub inside : (p : Position) → HasPosition old.area p → HasPosition r p → cell_in new p ≡ f p (cell_in old p)
  pub outside : (p : Position) → HasPosition old.area p → ¬ (HasPosition r p) → cell_in new p ≡ cell_in old p

-- each cell of the buffer is what f makes of it at its position
pub record MakesEach (f : Position → Cell → Cell) (old new : BufferData) : Type 0 where
  pub area : new.area ≡ old.area
  pub room : new.room ≡ old.room
  pub at : (p : Position) → HasPosition old.area p → cell_in new p ≡ f p (cell_in old p)

-- a change of each cell of an area that the buffer has takes no memory
abbrev pub AreLight : (Position → Cell → Type 0) → Rect → BufferData → Type 0
AreLight is_light r s = (p : Position) → HasPosition s.area p → HasPosition r p → is_light p (cell_in s p)

-- one position as a rectangle
abbrev pub place_at : Position → Rect
place_at p = record { x = p.x; y = p.y; width = 1; height = 1 }
