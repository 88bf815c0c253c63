-- What a clear does.
use Rattle.std.specs.Prelude.{◌≡◌, ◌⊎◌, ◌<◌, Bool}
use Rattle.rtui_geometry.specs.{declared.position.Position.Position, declared.rect.Rect.Rect}
use Rattle.rtui_geometry.specs.Rect.{EdgesFit, has_position}
use Rattle.rtui_buffer.specs.BufferData.{IsEmptied}
use Rattle.rtui_backend.specs.Screen.{IsOnScreen, Screen, cursor_of, with_cursor}
use Rattle.rtui_backend.specs.{Clear.is_cleared, declared.clear_type.ClearType.TheVariants.AfterCursor}
use Rattle.rtui_viewport.specs.{declared.viewport.Viewport.Viewport, Viewports.IsFixed, Viewports.IsInline}
use Rattle.rtui_viewport.specs.{Areas.KeepsAllButLooks, Areas.Empties}
use Rattle.rtui_viewport.specs.Clearing.{ClearsArea, WritesBlanks}
use Rattle.rtui_terminal.specs.{TerminalData.TerminalData, InStep.IsInStep, InStep.KeepsAroundViewport}
use Rattle.rtui_terminal.specs.{InStep.rows_over}

-- the columns from the corner of a rectangle on, row by row: the corner is the nearest position of the screen
abbrev pub is_from_corner : Rect → Screen → Position → Bool
is_from_corner r s p = is_cleared AfterCursor (with_cursor r.x r.y s).cursor_x
    (with_cursor r.x r.y s).cursor_y p.x p.y

-- a viewport that has its place was emptied, and a fixed one past the edge as far as the screen has it
pub record EmptiesViewport (v : Viewport) (r : Rect) (old new : Screen) : Type 0 where
  pub clears : ClearsArea v r old new
  pub cut : IsFixed v → r.y < old.height → Empties (has_position r) old new

module _ {B : Type 0} (screen : B → Screen) where
  -- a clear: the previous buffer is empty, and so is the viewport, whose edges fit, an inline one from its
  -- corner on, a fixed one as far as the screen has it; the size, the history and the cursor stay
  pub record ClearsViewport (s t : TerminalData B) : Type 0 where
    pub edges : EdgesFit s.viewport_area
    pub rest : t ≡ record s { backend = t.backend; previous = t.previous }
    pub previous : IsEmptied s.previous.area t.previous
    pub frame : KeepsAllButLooks (screen s.backend) (screen t.backend)
    pub cursor : cursor_of (screen t.backend) ≡ cursor_of (screen s.backend)
    pub clears : ClearsArea s.viewport s.viewport_area (screen s.backend) (screen t.backend)
    pub corner : IsInline s.viewport → Empties (is_from_corner s.viewport_area (screen s.backend))
        (screen s.backend) (screen t.backend)
    pub cut : IsFixed s.viewport → s.viewport_area.y < (screen s.backend).height
        → Empties (has_position s.viewport_area) (screen s.backend) (screen t.backend)
    pub written : WritesBlanks s.viewport s.viewport_area (screen s.backend) (screen t.backend)
    pub in_step : IsOnScreen s.viewport_area (screen s.backend) → s.previous.area ≡ s.viewport_area
        → IsInStep screen t
    pub above : IsInline s.viewport → IsOnScreen s.viewport_area (screen s.backend)
        → 0 < s.viewport_area.height
        → rows_over screen t ≡ rows_over screen s
    pub keeps : IsFixed s.viewport → IsOnScreen s.viewport_area (screen s.backend)
        → KeepsAroundViewport screen s t

  -- a backend failed in a clear; if only the cursor wasn't set back, the viewport was emptied, and so is the
  -- previous buffer
  pub record FailsClearing (s t : TerminalData B) : Type 0 where
    pub rest : t ≡ record s { backend = t.backend; previous = t.previous }
    pub previous : (t.previous ≡ s.previous) ⊎ (IsEmptied s.previous.area t.previous
        × ((emptied : B) × EmptiesViewport s.viewport s.viewport_area (screen s.backend) (screen emptied)))
