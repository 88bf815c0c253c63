-- What writing the differences between two buffers does, and what an apply of a whole frame does.
use Rattle.std.specs.Prelude.{ℕ, ◌≡◌, ◌⊎◌, ◌+◌, ◌-◌, ◌*◌, ◌%◌, ◌^◌, ◌<◌, true, false, List, [], ◌∷◌, length}
use Rattle.std.specs.Prelude.{IsSome, Option, None, Some, is_none}
use Rattle.rtui_geometry.specs.declared.position.Position.{Position}
use Rattle.rtui_cell.specs.Grid.{Update}
use Rattle.rtui_diff.specs.Completeness.{AreNarrow, differing}
use Rattle.rtui_buffer.specs.{BufferData.IsEmptied, BufferData.BufferData, Shown.IsSettledBuffer}
use Rattle.rtui_buffer.specs.{Shown.ShowsBuffer, Shown.buffer_updates}
use Rattle.rtui_backend.specs.Screen.{Draws, IsOnScreen, Screen, with_cursor, with_visible}
use Rattle.rtui_viewport.specs.declared.viewport.Viewport.{Viewport}
use Rattle.rtui_viewport.specs.declared.viewport.Viewport.TheVariants.{Fixed, Fullscreen, Inline}
use Rattle.rtui_viewport.specs.Areas.{KeepsOutside}
use Rattle.rtui_terminal.specs.{TerminalData.HasAreas, TerminalData.TerminalData, InStep.IsInStep}
use Rattle.rtui_terminal.specs.{InStep.KeepsAroundViewport}
use Rattle.rtui_terminal.specs.declared.terminal.error.TerminalError.{TerminalError}
use Rattle.rtui_terminal.specs.declared.terminal.error.TerminalError.TheVariants.{Area, Backend, Closure}
use Rattle.rtui_terminal.specs.declared.terminal.error.TerminalError.TheVariants.{Memory}

-- how many unskipped cells of the second buffer differ from the first one's
abbrev pub differing_count : BufferData → BufferData → ℕ
differing_count previous current =
    length (differing previous.cells current.cells (previous.area.width * previous.area.height))

-- the updates from one buffer to another of its area were drawn on a screen, which shows the second one if it
-- showed the first
pub record WritesDifferences (previous current : BufferData) (old new : Screen) : Type 0 where
  pub drawn : Draws old (buffer_updates previous current) new
  pub shown : IsOnScreen previous.area old → IsSettledBuffer previous → IsSettledBuffer current
      → ShowsBuffer previous old.grid → ShowsBuffer current new.grid
  pub outside : IsOnScreen previous.area old → IsSettledBuffer previous → IsSettledBuffer current
      → KeepsOutside previous.area old new
  pub few : AreNarrow (previous.area.width * previous.area.height) previous.cells current.cells
      → old.written + differing_count previous current < 2 ^ 64 - 1
      → new.written ≡ old.written + differing_count previous current

-- the cursor of a frame: hidden if there is none, else visible at its place
abbrev pub cursor_placed : Option Position → Screen → Screen
cursor_placed None s = with_visible false s
cursor_placed (Some p) s = with_cursor p.x p.y (with_visible true s)

-- the differences between a terminal's buffers were written, and the cursor was placed
abbrev pub HasDrawn : {B : Type 0} → Option Position → TerminalData B → Screen → Screen → Type 0
HasDrawn cursor s old new = (between : Screen) × WritesDifferences s.previous s.current old between
    × (new ≡ cursor_placed cursor between)

-- the place of the last of some updates, and the given one if there are none
abbrev pub last_place : Position → List Update → Position
last_place p [] = p
last_place p (u ∷ us) = last_place (record { x = u.x; y = u.y }) us

-- the cursor that is known after some updates; only an inline viewport asks for it
abbrev pub known_behind : Viewport → Position → List Update → Position
known_behind Fullscreen p us = p
known_behind (Inline rows) p us = last_place p us
known_behind (Fixed r) p us = p

abbrev pub cursor_behind : {B : Type 0} → TerminalData B → Position
cursor_behind s = known_behind s.viewport s.last_known_cursor_pos (buffer_updates s.previous s.current)

-- the cursor that is known after a frame: a placed one, else the one after its updates
abbrev pub cursor_after : {B : Type 0} → Option Position → TerminalData B → Position
cursor_after None s = cursor_behind s
cursor_after (Some placed) s = placed

-- a buffer hadn't the viewport's area, and nothing changed
abbrev pub RefusesArea : {B : Type 0} → TerminalData B → TerminalData B → Type 0
RefusesArea s t = (t ≡ s) × (HasAreas s → ⊥)

-- a refused flush changed nothing but the backend
abbrev pub FlushErr : {B E : Type 0} → TerminalData B → TerminalData B → TerminalError E → Type 0
FlushErr s t (Backend error) = HasAreas s × (t ≡ record s { backend = t.backend })
FlushErr s t Memory = ⊥
FlushErr s t Area = RefusesArea s t
FlushErr s t (Closure error) = ⊥

module _ {B : Type 0} (screen : B → Screen) where
  -- the differences were written, and the buffers stay
  pub record Flushes (s t : TerminalData B) : Type 0 where
    pub areas : HasAreas s
    pub rest : t ≡ record s { backend = t.backend; last_known_cursor_pos = cursor_behind s }
    pub written : WritesDifferences s.previous s.current (screen s.backend) (screen t.backend)

  -- the differences were written, and the cursor was hidden or placed; the buffers stay
  pub record Writes (cursor : Option Position) (s t : TerminalData B) : Type 0 where
    pub areas : HasAreas s
    pub rest : t ≡ record s {
      backend = t.backend;
      last_known_cursor_pos = cursor_after cursor s;
      hidden_cursor = is_none cursor;
    }
    pub drawn : HasDrawn cursor s (screen s.backend) (screen t.backend)

  -- a backend failed before all was written and the cursor placed; a cursor that was to be placed may be
  -- shown already
  pub record FailsWriting (cursor : Option Position) (s t : TerminalData B) : Type 0 where
    pub areas : HasAreas s
    pub rest : t ≡ record s {
      backend = t.backend;
      last_known_cursor_pos = t.last_known_cursor_pos;
      hidden_cursor = t.hidden_cursor;
    }
    pub hidden : (t.hidden_cursor ≡ s.hidden_cursor) ⊎ (IsSome cursor × (t.hidden_cursor ≡ false))
    pub known : (t.last_known_cursor_pos ≡ s.last_known_cursor_pos)
        ⊎ (t.last_known_cursor_pos ≡ cursor_behind s)

  -- a refused writing of a frame
  abbrev pub WriteErr : {E : Type 0} → Option Position → TerminalData B → TerminalData B → TerminalError E
      → Type 0
  WriteErr cursor s t (Backend error) = FailsWriting cursor s t
  WriteErr cursor s t Memory = ⊥
  WriteErr cursor s t Area = RefusesArea s t
  WriteErr cursor s t (Closure error) = ⊥

  -- the current buffer was drawn and is now the previous one, the emptied previous one is current, and a
  -- frame more is counted
  pub record Applies (cursor : Option Position) (s t : TerminalData B) : Type 0 where
    pub areas : HasAreas s
    pub painted : t.previous ≡ s.current
    pub emptied : IsEmptied s.viewport_area t.current
    pub rest : t ≡ record s {
      backend = t.backend;
      current = t.current;
      previous = t.previous;
      last_known_cursor_pos = cursor_after cursor s;
      hidden_cursor = is_none cursor;
      frame_count = (s.frame_count + 1) % 2 ^ 64;
    }
    pub drawn : HasDrawn cursor s (screen s.backend) (screen t.backend)
    pub in_step : IsInStep screen s → IsSettledBuffer s.current → IsInStep screen t
    pub keeps : IsInStep screen s → IsSettledBuffer s.current → KeepsAroundViewport screen s t

  -- all was written and the cursor placed, as the terminal then was, and the last flush failed: the buffers
  -- are swapped, and the frame isn't counted
  pub record FailsFlushing (cursor : Option Position) (s t : TerminalData B) : Type 0 where
    pub written : TerminalData B
    pub writes : Writes cursor s written
    pub previous : t.previous ≡ s.current
    pub current : IsEmptied s.viewport_area t.current
    pub rest : t ≡ record written { backend = t.backend; current = t.current; previous = t.previous }

  -- a refused apply: a backend failed before the swap of the buffers, or after it, or a buffer hadn't the
  -- viewport's area
  abbrev pub ApplyErr : {E : Type 0} → Option Position → TerminalData B → TerminalData B → TerminalError E
      → Type 0
  ApplyErr cursor s t (Backend error) = FailsWriting cursor s t ⊎ FailsFlushing cursor s t
  ApplyErr cursor s t Memory = ⊥
  ApplyErr cursor s t Area = RefusesArea s t
  ApplyErr cursor s t (Closure error) = ⊥
