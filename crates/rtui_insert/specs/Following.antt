-- What moves with a viewport.
use Rattle.std.specs.Prelude.{◌≡◌}
use Rattle.rtui_geometry.specs.declared.rect.Rect.{Rect}
use Rattle.rtui_buffer.specs.BufferData.{BufferData}

-- a rectangle that was the viewport's area is its new one, and any other stays
pub record AreaFollows (former next old new : Rect) : Type 0 where
  pub moved : old ≡ former → new ≡ next
  pub stays : (old ≡ former → ⊥) → new ≡ old

-- a buffer of the viewport's area moved with it, and any other stays
pub record Follows (former next : Rect) (old new : BufferData) : Type 0 where
  pub area : AreaFollows former next old.area new.area
  pub rest : new ≡ record old { area = new.area }
