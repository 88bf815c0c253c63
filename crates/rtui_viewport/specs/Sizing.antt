-- Which area a viewport is placed on, and when it is placed again.
use Rattle.std.specs.Prelude.{◌≡◌, ◌⊎◌, Option, None, Some}
use Rattle.rtui_geometry.specs.{declared.rect.Rect.Rect, Rect.EdgesFit}
use Rattle.rtui_backend.specs.Screen.{Screen, screen_area}
use Rattle.rtui_viewport.specs.declared.viewport.Viewport.{Viewport}
use Rattle.rtui_viewport.specs.declared.viewport.Viewport.TheVariants.{Fullscreen, Inline, Fixed}
use Rattle.rtui_viewport.specs.Viewports.{IsFixed}

-- the area that a new viewport is placed on: a fixed one's own, else the screen's
abbrev pub first_area : Viewport → Screen → Rect
first_area Fullscreen s = screen_area s
first_area (Inline n) s = screen_area s
first_area (Fixed r) s = r

-- the viewport is fixed, or the screen has its last known area
abbrev pub IsSizeKnown : Viewport → Rect → Screen → Type 0
IsSizeKnown v known s = IsFixed v ⊎ (screen_area s ≡ known)

-- the area that a viewport must be placed on again: the whole screen if its size isn't known, else none
abbrev pub IsAreaChange : Viewport → Rect → Screen → Option Rect → Type 0
IsAreaChange v known s None = IsSizeKnown v known s
IsAreaChange v known s (Some area) = (IsSizeKnown v known s → ⊥) × (area ≡ screen_area s) × EdgesFit area
