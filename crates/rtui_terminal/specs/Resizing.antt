-- What a resize does, and when a terminal resizes by itself.
use Rattle.std.specs.Prelude.{◌≡◌, ◌⊎◌, ◌-◌, ◌<◌, ◌||◌, Bool, nat_lt, ◌++◌, length, take}
use Rattle.rtui_geometry.specs.{declared.rect.Rect.Rect, Rect.has_position}
use Rattle.rtui_buffer.specs.BufferData.{IsEmptied, IsSameBuffer, BufferData, area_size, empty_cells}
use Rattle.rtui_backend.specs.Screen.{IsOnScreen, Screen, Scrolls, cursor_of, screen_area}
use Rattle.rtui_viewport.specs.{declared.viewport.Viewport.Viewport, Viewports.IsFixed, Areas.Empties}
use Rattle.rtui_viewport.specs.{Areas.KeepsAllButLooks}
use Rattle.rtui_viewport.specs.{Clearing.HasPlace, Clearing.WritesBlanks}
use Rattle.rtui_viewport.specs.{Clearing.is_emptied}
use Rattle.rtui_viewport.specs.Placing.{area_in, raised, rows_scrolled, unplaced_area}
use Rattle.rtui_terminal.specs.TerminalData.{HasAreas, HaveRoom, TerminalData, cursor_offset}
use Rattle.rtui_terminal.specs.{InStep.IsInStep, InStep.IsReady, InStep.IsSized}
use Rattle.rtui_terminal.specs.{declared.terminal.error.TerminalError.TerminalError, Cursor.Stays}
use Rattle.rtui_terminal.specs.declared.terminal.error.TerminalError.TheVariants.{Area, Backend, Closure}
use Rattle.rtui_terminal.specs.declared.terminal.error.TerminalError.TheVariants.{Memory}

-- the same list of cells over another area, cut, or with empty cells after them
pub record IsResized (area : Rect) (old new : BufferData) : Type 0 where
  pub area_is : new.area ≡ area
  pub cells : new.cells ≡ take (area_size area) old.cells ++ empty_cells (area_size area - length old.cells)

-- a buffer has no room for the cells that the viewport takes of an area
abbrev pub LacksRoom : {B : Type 0} → Rect → TerminalData B → Type 0
LacksRoom area s = HaveRoom (unplaced_area s.viewport area) s → ⊥

-- the viewport stays, and both buffers but for their room
pub record KeepsBuffers {B : Type 0} (s t : TerminalData B) : Type 0 where
  pub viewport_area : t.viewport_area ≡ s.viewport_area
  pub current : IsSameBuffer s.current t.current
  pub previous : IsSameBuffer s.previous t.previous

-- a viewport was emptied at a new place, a fixed one as far as the screen has it; all columns were, if the
-- viewport became narrower
pub record EmptiesPlaced (v : Viewport) (r : Rect) (is_narrower : Bool) (old new : Screen) : Type 0 where
  pub empties : HasPlace v r old → Empties (λ p. is_emptied v r old.height p || is_narrower) old new
  pub cut : IsFixed v → r.y < old.height → Empties (λ p. has_position r p || is_narrower) old new

module _ {B : Type 0} (screen : B → Screen) where
  -- a resize to an area: the viewport was placed on it, which may scroll, and cleared, or the whole screen if
  -- it became narrower; the current buffer is cut or filled up, and the previous one is empty
  pub record Resizes (area : Rect) (s t : TerminalData B) : Type 0 where
    pub rest : t ≡ record s {
      backend = t.backend;
      current = t.current;
      previous = t.previous;
      viewport_area = t.viewport_area;
      last_known_area = area;
    }
    pub viewport_area : t.viewport_area ≡ raised s.viewport_area.width
        (area_in s.viewport area (cursor_offset s) (screen s.backend).cursor_y)
    pub current : IsResized t.viewport_area s.current t.current
    pub previous : IsEmptied t.viewport_area t.previous
    pub scrolled : Screen
    pub scrolls : Scrolls (screen s.backend) (rows_scrolled s.viewport (cursor_offset s)
        (screen s.backend)) scrolled
    pub frame : KeepsAllButLooks scrolled (screen t.backend)
    pub empties : HasPlace s.viewport t.viewport_area scrolled
        → Empties (λ p. is_emptied s.viewport t.viewport_area scrolled.height p
        || nat_lt area.width s.viewport_area.width) scrolled (screen t.backend)
    pub cut : IsFixed s.viewport → t.viewport_area.y < scrolled.height
        → Empties (λ p. has_position t.viewport_area p || nat_lt area.width s.viewport_area.width) scrolled
        (screen t.backend)
    pub cursor : (IsFixed s.viewport → ⊥) → cursor_of (screen t.backend) ≡ cursor_of (screen s.backend)
    pub written : WritesBlanks s.viewport t.viewport_area scrolled (screen t.backend)
    pub on_screen : area ≡ screen_area (screen s.backend) → IsOnScreen t.viewport_area (screen t.backend)
    pub in_step : IsOnScreen t.viewport_area (screen t.backend) → IsInStep screen t

  -- the screen scrolled, the viewport was emptied at its new place, and the previous buffer is empty
  pub record EmptiesPrevious (area : Rect) (s t : TerminalData B) : Type 0 where
    pub previous : IsEmptied t.viewport_area t.previous
    pub scrolled : Screen
    pub scrolls : Scrolls (screen s.backend) (rows_scrolled s.viewport (cursor_offset s)
        (screen s.backend)) scrolled
    pub emptied : B
    pub empties : EmptiesPlaced s.viewport t.viewport_area (nat_lt area.width s.viewport_area.width) scrolled
        (screen emptied)

  -- both buffers were cut or filled up for the viewport's new area, or the previous one is empty, and so was
  -- the viewport
  pub record ResizesBuffers (area : Rect) (s t : TerminalData B) : Type 0 where
    pub current : IsResized t.viewport_area s.current t.current
    pub previous : IsResized t.viewport_area s.previous t.previous ⊎ EmptiesPrevious area s t

  -- a backend failed in a resize, before the viewport and both buffers had got their new area, or after that;
  -- the last known area stays
  pub record FailsResizing (area : Rect) (s t : TerminalData B) : Type 0 where
    pub rest : t ≡ record s {
      backend = t.backend;
      current = t.current;
      previous = t.previous;
      viewport_area = t.viewport_area;
    }
    pub left : KeepsBuffers s t ⊎ (ResizesBuffers area s t
        × (t.viewport_area ≡ raised s.viewport_area.width (area_in s.viewport area (cursor_offset s)
        (screen s.backend).cursor_y)))
    pub areas : HasAreas s → HasAreas t

  -- a refused resize: for want of memory, if a buffer had no room, and then nothing changed but the room of
  -- the buffers
  abbrev pub ResizeErr : {E : Type 0} → Rect → TerminalData B → TerminalData B → TerminalError E → Type 0
  ResizeErr area s t (Backend error) = FailsResizing area s t
  ResizeErr area s t Memory = LacksRoom area s × (t ≡ record s { current = t.current; previous = t.previous })
      × IsSameBuffer s.current t.current × IsSameBuffer s.previous t.previous
  ResizeErr area s t Area = ⊥
  ResizeErr area s t (Closure error) = ⊥

  -- a resize to the screen's size if that isn't the last known one and the viewport isn't fixed, and else
  -- nothing
  pub record Autoresizes (s t : TerminalData B) : Type 0 where
    pub case : (IsSized screen s × Stays screen s t)
        ⊎ ((IsSized screen s → ⊥) × Resizes (screen_area (screen s.backend)) s t)
    pub fixed : IsFixed s.viewport → t ≡ s
    pub in_step : IsReady screen s → IsInStep screen t

  -- a refused autoresize: the viewport isn't fixed, and the screen's size couldn't be asked for, or the
  -- resize was refused
  abbrev pub AutoresizeErr : {E : Type 0} → TerminalData B → TerminalData B → TerminalError E → Type 0
  AutoresizeErr s t (Backend error) = (IsFixed s.viewport → ⊥)
      × FailsResizing (screen_area (screen s.backend)) s t
  AutoresizeErr s t Memory = (IsSized screen s → ⊥) × LacksRoom (screen_area (screen s.backend)) s
      × (t ≡ record s { backend = t.backend; current = t.current; previous = t.previous })
      × (screen t.backend ≡ screen s.backend) × IsSameBuffer s.current t.current
      × IsSameBuffer s.previous t.previous
  AutoresizeErr s t Area = ⊥
  AutoresizeErr s t (Closure error) = ⊥
