-- Where a viewport may lie on a screen.
use Rattle.std.specs.Prelude.{◌≡◌, ℕ, ◌+◌, ◌<◌, ◌≤◌, min}
use Rattle.rtui_geometry.specs.{declared.rect.Rect.Rect, declared.size.Size.Size}
use Rattle.rtui_viewport.specs.declared.viewport.Viewport.{Viewport}
use Rattle.rtui_viewport.specs.declared.viewport.Viewport.TheVariants.{Fullscreen, Inline, Fixed}

-- all of a screen of this size
abbrev pub at_corner : Size → Rect
at_corner size = record { x = 0; y = 0; width = size.width; height = size.height }

-- an inline viewport has rows, and a fixed one lies on a screen of this size
abbrev pub FitsSize : Viewport → Size → Type 0
FitsSize Fullscreen size = Unit {0}
FitsSize (Inline rows) size = 0 < rows
FitsSize (Fixed r) size = (r.x + r.width ≤ size.width) × (r.y + r.height ≤ size.height)

-- an inline viewport takes the full width, and its rows or all that there are
pub record IsAcross (rows : ℕ) (size : Size) (r : Rect) : Type 0 where
  pub x : r.x ≡ 0
  pub width : r.width ≡ size.width
  pub height : r.height ≡ min rows size.height
  pub bottom : r.y + r.height ≤ size.height

-- where a viewport may lie on a screen
abbrev pub MayLie : Viewport → Size → Rect → Type 0
MayLie Fullscreen size r = r ≡ at_corner size
MayLie (Inline rows) size r = IsAcross rows size r
MayLie (Fixed f) size r = r ≡ f
