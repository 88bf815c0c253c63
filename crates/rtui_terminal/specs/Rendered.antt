-- What a terminal shows after a draw whose closure only renders.
use Rattle.std.specs.Prelude.{◌≡◌, Option, Result, IsOk, OnOk, OnErr}
use Rattle.std.specs.declared.alloc.AllocError.{AllocError}
use Rattle.rtui_geometry.specs.{declared.position.Position.Position, declared.rect.Rect.Rect}
use Rattle.rtui_buffer.specs.{BufferData.BufferData, BufferData.IsEmptied, Shown.IsSettledBuffer}
use Rattle.rtui_buffer.specs.{Shown.ShowsBuffer}
use Rattle.rtui_widgets.specs.Rendering.{ChangesWithin}
use Rattle.rtui_backend.specs.Screen.{Screen}
use Rattle.rtui_terminal.specs.TerminalData.{TerminalData}

-- the buffer is what rendering over its whole area makes of an empty one
pub record IsRendered (renders : Rect → BufferData → BufferData → Type 0) (s : BufferData) : Type 0 where
  pub blank : BufferData
  pub emptied : IsEmptied s.area blank
  pub rendered : renders s.area blank s

-- the previous buffer covers the viewport and is so rendered, and the screen shows it if it is settled
pub record ShowsRendered {B : Type 0} (screen : B → Screen) (renders : Rect → BufferData → BufferData
    → Type 0) (t : TerminalData B) : Type 0 where
  pub area : t.previous.area ≡ t.viewport_area
  pub rendered : IsRendered renders t.previous
  pub shown : IsSettledBuffer t.previous → ShowsBuffer t.previous (screen t.backend).grid

-- a closure rendered a widget over the viewport and, if that was Ok, left the cursor where it was wanted, or
-- none: its answer, and what it made of the current buffer, are as the widget says
pub record RendersCurrent {B : Type 0} (renders leaves : Rect → BufferData → BufferData → Type 0)
    (reach : Rect → Rect) (is_short : Rect → BufferData → Type 0) (wanted : Option Position)
    (s : TerminalData B) (answer : Result (Unit {0}) AllocError) (cursor : Option Position)
    (painted : BufferData) : Type 0 where
  pub placed : OnOk answer (cursor ≡ wanted)
  pub area : painted.area ≡ s.current.area
  pub ok : OnOk answer (renders s.viewport_area s.current painted)
  pub err : OnErr answer (ChangesWithin (reach s.viewport_area) s.current painted)
  pub left : OnErr answer (leaves s.viewport_area s.current painted)
  pub short : is_short s.viewport_area s.current → IsOk answer
