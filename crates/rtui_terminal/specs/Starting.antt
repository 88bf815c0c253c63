-- What a new terminal is.
use Rattle.std.specs.Prelude.{ℕ, ◌≡◌, ◌+◌, ◌-◌, ◌^◌, ◌<◌, false}
use Rattle.rtui_geometry.specs.{declared.position.Position.Position, Rect.corner}
use Rattle.rtui_cell.specs.Look.{empty_look}
use Rattle.rtui_buffer.specs.BufferData.{IsEmptied, area_size}
use Rattle.rtui_backend.specs.Screen.{IsOnScreen, KeepsSizeAndHistory, Screen, Scrolls, cursor_of, rows_above}
use Rattle.rtui_viewport.specs.declared.viewport.Viewport.{Viewport}
use Rattle.rtui_viewport.specs.declared.viewport.Viewport.TheVariants.{Fixed, Fullscreen, Inline}
use Rattle.rtui_viewport.specs.{Viewports.IsFixed, Viewports.IsInline, Areas.IsBlankOver, Sizing.first_area}
use Rattle.rtui_viewport.specs.Placing.{area_in, cursor_row_behind, rows_scrolled, unplaced_area}
use Rattle.rtui_terminal.specs.{TerminalData.TerminalData, InStep.IsInStep, InStep.rows_over}
use Rattle.rtui_terminal.specs.{declared.terminal.error.TerminalError.TerminalError}
use Rattle.rtui_terminal.specs.declared.terminal.error.TerminalError.TheVariants.{Area, Backend, Closure}
use Rattle.rtui_terminal.specs.declared.terminal.error.TerminalError.TheVariants.{Memory}

-- each column of each row of a screen is empty
pub record IsBlank (s : Screen) : Type 0 where
  pub at : (a b : ℕ) → a < s.width → b < s.height → s.grid a b ≡ empty_look

-- the cursor that is known at the start: for an inline viewport the screen's
abbrev pub first_cursor : Viewport → Screen → Position
first_cursor Fullscreen s = record { x = 0; y = 0 }
first_cursor (Inline rows) s = cursor_of s
first_cursor (Fixed r) s = corner r

-- a start is refused for want of memory if the viewport has cells, or by the backend if it isn't fixed; the
-- backend was dropped then, so that some backend with such a count of failures is all that is said
abbrev pub StartErr : {B E : Type 0} → (B → Screen) → (B → ℕ) → Viewport → B → TerminalError E → Type 0
StartErr {B} screen failures viewport b (Backend error) = (IsFixed viewport → ⊥)
    × ((dropped : B) × (failures b < 2 ^ 64 - 1 → failures dropped ≡ failures b + 1))
StartErr {B} screen failures viewport b Memory =
    (area_size (unplaced_area viewport (first_area viewport (screen b))) ≡ 0 → ⊥)
    × ((dropped : B) × (failures dropped ≡ failures b))
StartErr screen failures viewport b Area = ⊥
StartErr screen failures viewport b (Closure error) = ⊥

module _ {B : Type 0} (screen : B → Screen) where
  -- a new terminal: empty buffers over the viewport, which was placed; for an inline one the cursor moved
  -- down, and the screen may have scrolled; in step if the viewport is blank then
  pub record Starts (viewport : Viewport) (b : B) (t : TerminalData B) : Type 0 where
    pub kind : t.viewport ≡ viewport
    pub last_known_area : t.last_known_area ≡ first_area viewport (screen b)
    pub last_known_cursor_pos : t.last_known_cursor_pos ≡ first_cursor viewport (screen b)
    pub viewport_area : t.viewport_area ≡ area_in viewport t.last_known_area 0 (screen b).cursor_y
    pub current : IsEmptied t.viewport_area t.current
    pub previous : IsEmptied t.viewport_area t.previous
    pub hidden : t.hidden_cursor ≡ false
    pub count : t.frame_count ≡ 0
    pub scrolls : Scrolls (screen b) (rows_scrolled viewport 0 (screen b)) (screen t.backend)
    pub cursor_row : (screen t.backend).cursor_y ≡ cursor_row_behind viewport 0 (screen b)
    pub untouched : (IsInline viewport → ⊥) → screen t.backend ≡ screen b
    pub fixed : IsFixed viewport → t.backend ≡ b
    pub on_screen : (IsFixed viewport → ⊥) → IsOnScreen t.viewport_area (screen t.backend)
    pub in_step : IsOnScreen t.viewport_area (screen t.backend)
        → IsBlankOver t.viewport_area (screen t.backend) → IsInStep screen t

  -- a new terminal over one row: that of the cursor, on a screen whose rows are as they were
  pub record StartsInRow (b : B) (t : TerminalData B) : Type 0 where
    pub viewport_area : t.viewport_area ≡ record {
      x = 0;
      y = (screen b).cursor_y;
      width = (screen b).width;
      height = 1;
    }
    pub size : KeepsSizeAndHistory (screen b) (screen t.backend)
    pub above : rows_over screen t ≡ rows_above (screen b) (screen b).cursor_y
    pub grid : (a c : ℕ) → a < (screen b).width → c < (screen b).height
        → (screen t.backend).grid a c ≡ (screen b).grid a c
