-- What callers see of a terminal.
use Rattle.std.specs.Prelude.{◌≡◌, ◌≤◌, false, ℕ, ◌-◌, Bool}
use Rattle.rtui_geometry.specs.{declared.position.Position.Position, declared.rect.Rect.Rect}
use Rattle.rtui_buffer.specs.BufferData.{BufferData, IsSameBuffer, IsEmptied, area_size}
use Rattle.rtui_viewport.specs.declared.viewport.Viewport.{Viewport}
use Rattle.rtui_viewport.specs.declared.viewport.Viewport.TheVariants.{Fullscreen, Inline, Fixed}

-- the backend, the buffer to paint on and the one painted before, the kind of viewport and its area, the area
-- of the screen and the place of the cursor that were known last, whether the terminal hid the cursor, and
-- the number of the next frame
pub record TerminalData (B : Type 0) : Type 0 where
  pub backend : B
  pub current : BufferData
  pub previous : BufferData
  pub viewport : Viewport
  pub viewport_area : Rect
  pub last_known_area : Rect
  pub last_known_cursor_pos : Position
  pub hidden_cursor : Bool
  pub frame_count : ℕ

-- an inline viewport begins in column 0
abbrev pub IsInPlace : Viewport → Rect → Type 0
IsInPlace Fullscreen r = Unit {0}
IsInPlace (Inline rows) r = r.x ≡ 0
IsInPlace (Fixed f) r = Unit {0}

-- both buffers have the viewport's area
pub record HasAreas {B : Type 0} (s : TerminalData B) : Type 0 where
  pub current : s.current.area ≡ s.viewport_area
  pub previous : s.previous.area ≡ s.viewport_area

-- both buffers have room for the cells of an area
pub record HaveRoom {B : Type 0} (area : Rect) (s : TerminalData B) : Type 0 where
  pub current : area_size area ≤ s.current.room
  pub previous : area_size area ≤ s.previous.room

-- how many of the viewport's rows the last known cursor stands below its top
abbrev pub cursor_offset : {B : Type 0} → TerminalData B → ℕ
cursor_offset s = s.last_known_cursor_pos.y - s.viewport_area.y

-- the same but for the room of the buffers
pub record IsSameTerminal {B : Type 0} (s t : TerminalData B) : Type 0 where
  pub current : IsSameBuffer s.current t.current
  pub previous : IsSameBuffer s.previous t.previous
  pub rest : t ≡ record s { current = t.current; previous = t.previous }

-- a fullscreen viewport of no columns and rows and two buffers of its area, no frame drawn, the cursor not
-- hidden
pub record IsDefaultOver {B : Type 0} (t : TerminalData B) : Type 0 where
  pub current : IsEmptied (record { x = 0; y = 0; width = 0; height = 0 }) t.current
  pub previous : IsEmptied (record { x = 0; y = 0; width = 0; height = 0 }) t.previous
  pub viewport : t.viewport ≡ Fullscreen
  pub viewport_area : t.viewport_area ≡ record { x = 0; y = 0; width = 0; height = 0 }
  pub last_known_area : t.last_known_area ≡ record { x = 0; y = 0; width = 0; height = 0 }
  pub last_known_cursor_pos : t.last_known_cursor_pos ≡ record { x = 0; y = 0 }
  pub hidden : t.hidden_cursor ≡ false
  pub count : t.frame_count ≡ 0
