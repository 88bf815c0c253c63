-- When a terminal knows what its screen shows, and when a draw finds it out.
use Rattle.std.specs.Prelude.{◌≡◌, ◌⊎◌, List}
use Rattle.rtui_cell.specs.Look.{Look}
use Rattle.rtui_buffer.specs.Shown.{IsSettledBuffer, ShowsBuffer}
use Rattle.rtui_backend.specs.Screen.{Screen, KeepsSizeAndHistory, IsOnScreen, rows_above}
use Rattle.rtui_viewport.specs.{Sizing.IsSizeKnown, Areas.KeepsOutside}
use Rattle.rtui_terminal.specs.TerminalData.{TerminalData}

module _ {B : Type 0} (screen : B → Screen) where
  -- the viewport lies on the screen, the previous buffer covers it and is settled, and the screen shows it
  -- there
  pub record IsInStep (s : TerminalData B) : Type 0 where
    pub on_screen : IsOnScreen s.viewport_area (screen s.backend)
    pub area : s.previous.area ≡ s.viewport_area
    pub settled : IsSettledBuffer s.previous
    pub shown : ShowsBuffer s.previous (screen s.backend).grid

  -- the viewport is fixed, or the screen has its last known size: a draw won't resize
  abbrev pub IsSized : TerminalData B → Type 0
  IsSized s = IsSizeKnown s.viewport s.last_known_area (screen s.backend)

  -- in step, or a draw will resize
  abbrev pub IsReady : TerminalData B → Type 0
  IsReady s = IsInStep s ⊎ (IsSized s → ⊥)

  -- the rows above an inline viewport: the history, and the screen's rows before the top
  abbrev pub rows_over : TerminalData B → List (List Look)
  rows_over s = rows_above (screen s.backend) s.viewport_area.y

  -- the viewport stays, and with it the size, the history, the rows above it and all columns outside it
  pub record KeepsAroundViewport (s t : TerminalData B) : Type 0 where
    pub viewport_area : t.viewport_area ≡ s.viewport_area
    pub size : KeepsSizeAndHistory (screen s.backend) (screen t.backend)
    pub above : rows_over t ≡ rows_over s
    pub outside : KeepsOutside s.viewport_area (screen s.backend) (screen t.backend)
