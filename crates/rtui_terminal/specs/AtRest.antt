-- A terminal between two calls of an application.
use Rattle.std.specs.Prelude.{◌≡◌}
use Rattle.rtui_buffer.specs.BufferData.{IsEmptied}
use Rattle.rtui_backend.specs.Screen.{Screen, size_of}
use Rattle.rtui_viewport.specs.{declared.viewport.Viewport.Viewport, Areas.IsBlankBelow, Lying.MayLie}
use Rattle.rtui_viewport.specs.{Viewports.IsInline}
use Rattle.rtui_terminal.specs.{TerminalData.TerminalData, InStep.IsInStep, InStep.IsSized}

module _ {B : Type 0} (screen : B → Screen) where
  -- the terminal is in step over a viewport of this kind, which lies where it may, it knows the screen's
  -- size, its buffer to paint on is empty, and the rows below an inline viewport are blank
  pub record IsAtRest (kind : Viewport) (t : TerminalData B) : Type 0 where
    pub kind_is : t.viewport ≡ kind
    pub sized : IsSized screen t
    pub lies : MayLie kind (size_of (screen t.backend)) t.viewport_area
    pub in_step : IsInStep screen t
    pub current : IsEmptied t.viewport_area t.current
    pub below : IsInline kind → IsBlankBelow t.viewport_area (screen t.backend)
