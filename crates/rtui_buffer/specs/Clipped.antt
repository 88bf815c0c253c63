-- The part of an area that a buffer has.
use Rattle.std.specs.Prelude.{◌≡◌, ◌<◌}
use Rattle.rtui_geometry.specs.{declared.position.Position.Position, declared.rect.Rect.Rect}
use Rattle.rtui_geometry.specs.{Rect.HasPosition, Rect.EdgesFit, Rect.intersected}

-- it has some position, and each is one of the area and one of the buffer's own
pub record IsClipped (area own r : Rect) : Type 0 where
  pub value : r ≡ intersected area own
  pub columns : 0 < r.width
  pub rows : 0 < r.height
  pub of_area : (p : Position) → HasPosition r p → HasPosition area p
  pub of_own : (p : Position) → HasPosition r p → HasPosition own p
  pub edges : EdgesFit own
