-- What is done over the part of an area that a buffer has.
use Rattle.std.specs.Prelude.{◌≡◌, ◌⊎◌, ◌<◌}
use Rattle.rtui_geometry.specs.{declared.rect.Rect.Rect, Rect.intersected}
use Rattle.rtui_buffer.specs.BufferData.{BufferData}

-- what f does, over the part of an area that the buffer has; without one nothing changes
pub record OnPart (f : Rect → BufferData → BufferData → Type 0) (area : Rect)
    (old new : BufferData) : Type 0 where
  pub nothing : ((intersected area old.area).width ≡ 0) ⊎ ((intersected area old.area).height ≡ 0) → new ≡ old
  pub part : 0 < (intersected area old.area).width → 0 < (intersected area old.area).height
      → f (intersected area old.area) old new
