-- Parts of a buffer that are changed apart from each other.
use Rattle.std.specs.Prelude.{◌≡◌, ℕ, ◌<◌}
use Rattle.rtui_geometry.specs.{declared.rect.Rect.Rect, declared.position.Position.Position}
use Rattle.rtui_geometry.specs.{Rect.HasPosition}
use Rattle.rtui_buffer.specs.BufferData.{BufferData, cell_in}

-- a part of a buffer is what f makes of it, whatever stands beside it
pub record MakesPart (r : Rect) (f : BufferData → BufferData → Type 0) (old new : BufferData) : Type 0 where
  pub before : BufferData
  pub after : BufferData
  pub same_area : before.area ≡ old.area
  pub from : (p : Position) → HasPosition old.area p → HasPosition r p → cell_in before p ≡ cell_in old p
  pub made : f before after
  pub to : (p : Position) → HasPosition old.area p → HasPosition r p → cell_in new p ≡ cell_in after p

-- the first n parts of a buffer are each what f makes of it, and all else is as before
pub record MakesParts (n : ℕ) (part : ℕ → Rect) (f : ℕ → BufferData → BufferData → Type 0)
    (old new : BufferData) : Type 0 where
  pub area : new.area ≡ old.area
  pub room : new.room ≡ old.room
  pub each : (k : ℕ) → k < n → MakesPart (part k) (f k) old new
  pub rest : (p : Position) → HasPosition old.area p → ((k : ℕ) → k < n → ¬ (HasPosition (part k) p))
      → cell_in new p ≡ cell_in old p
