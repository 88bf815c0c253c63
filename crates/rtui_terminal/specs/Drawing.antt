-- What a draw does.
use Rattle.std.specs.Prelude.{ℕ, ◌≡◌, ◌⊎◌, Option, Result, Ok, Err, MatchResult, alloc_error}
use Rattle.std.specs.declared.alloc.AllocError.{AllocError}
use Rattle.rtui_geometry.specs.{declared.position.Position.Position, declared.rect.Rect.Rect}
use Rattle.rtui_buffer.specs.{BufferData.BufferData, Shown.IsSettledBuffer}
use Rattle.rtui_backend.specs.Screen.{Screen}
use Rattle.rtui_terminal.specs.{TerminalData.TerminalData}
use Rattle.rtui_terminal.specs.{declared.terminal.error.TerminalError.TerminalError}
use Rattle.rtui_terminal.specs.InStep.{IsInStep, IsReady, IsSized, KeepsAroundViewport}
use Rattle.rtui_terminal.specs.declared.terminal.error.TerminalError.TheVariants.{Area, Backend, Closure}
use Rattle.rtui_terminal.specs.declared.terminal.error.TerminalError.TheVariants.{Memory}
use Rattle.rtui_terminal.specs.{Writing.Applies, Writing.ApplyErr, Writing.RefusesArea}
use Rattle.rtui_terminal.specs.{Resizing.AutoresizeErr, Resizing.Autoresizes}

-- a completed frame: no failure was counted, its area is the last known one, and its number the count before
pub record CompletesFrame {B : Type 0} (failures : B → ℕ) (s t : TerminalData B) (area : Rect)
    (count : ℕ) : Type 0 where
  pub faults : failures t.backend ≡ failures s.backend
  pub area_is : area ≡ t.last_known_area
  pub count_is : count ≡ s.frame_count

module _ {B : Type 0} (screen : B → Screen) where
  -- a draw: the viewport was resized if need be, and the buffer that was painted then was drawn
  pub record DrawsFrame (s t : TerminalData B) : Type 0 where
    pub sized : TerminalData B
    pub autoresized : Autoresizes screen s sized
    pub cursor : Option Position
    pub applied : Applies screen cursor (record sized { current = t.previous }) t
    pub in_step : IsReady screen s → IsSettledBuffer t.previous → IsInStep screen t
    pub keeps : IsInStep screen s → IsSized screen s → IsSettledBuffer t.previous
        → KeepsAroundViewport screen s t

  -- a draw that was refused for what its closure answered or left: after the resize only the current buffer
  -- changed
  pub record RefusesFrame (s t : TerminalData B) : Type 0 where
    pub sized : TerminalData B
    pub autoresized : Autoresizes screen s sized
    pub rest : t ≡ record sized { current = t.current }

  -- `ran` tells of the closure what it answered, where it left the cursor, and the buffer that it painted
  module _ {X : Type 0} (ran : TerminalData B → Result (Unit {0}) X → Option Position → BufferData
      → Type 0) where
    -- a draw of what the closure painted
    pub record DrawOk (s t : TerminalData B) : Type 0 where
      pub draws : DrawsFrame s t
      pub closure : ran draws.sized (Ok tt) draws.cursor t.previous

    -- the closure refused, and the current buffer is what it left
    pub record ClosureErr (error : X) (s t : TerminalData B) : Type 0 where
      pub refuses : RefusesFrame s t
      pub cursor : Option Position
      pub closure : ran refuses.sized (Err error) cursor t.current

    -- a frame by what its closure answered
    abbrev pub FrameOk : TerminalData B → TerminalData B → Result (Unit {0}) X → Type 0
    FrameOk s t answer = MatchResult answer (λ _. DrawOk s t) (λ error. ClosureErr error s t)

    -- the closure painted, and what came after was refused
    pub record PaintedErr (after : Option Position → TerminalData B → TerminalData B → Type 0)
        (s t : TerminalData B) : Type 0 where
      pub sized : TerminalData B
      pub autoresized : Autoresizes screen s sized
      pub cursor : Option Position
      pub painted : BufferData
      pub closure : ran sized (Ok tt) cursor painted
      pub left : after cursor (record sized { current = painted }) t

    -- a refused frame, but for what the closure itself refused
    abbrev pub FrameErr : {E : Type 0} → TerminalData B → TerminalData B → TerminalError E → Type 0
    FrameErr s t (Backend error) = AutoresizeErr screen s t (Backend error)
        ⊎ PaintedErr (λ cursor painted left. ApplyErr screen cursor painted left (Backend error)) s t
    FrameErr {E = E} s t Memory = AutoresizeErr screen {E = E} s t Memory
    FrameErr s t Area = PaintedErr (λ _. RefusesArea) s t
    FrameErr s t (Closure error) = ⊥

  -- a refused draw, whose closure can refuse for want of memory
  abbrev pub DrawErr : {E : Type 0}
      → (TerminalData B → Result (Unit {0}) AllocError → Option Position → BufferData → Type 0)
      → TerminalData B → TerminalData B → TerminalError E → Type 0
  DrawErr ran s t (Backend error) = FrameErr ran s t (Backend error)
  DrawErr {E = E} ran s t Memory = FrameErr ran {E = E} s t Memory ⊎ ClosureErr ran alloc_error s t
  DrawErr {E = E} ran s t Area = FrameErr ran {E = E} s t Area
  DrawErr ran s t (Closure error) = ⊥

  -- a refused draw, whose closure can refuse with an error of the backend's kind
  abbrev pub TryDrawErr : {E : Type 0}
      → (TerminalData B → Result (Unit {0}) E → Option Position → BufferData → Type 0) → TerminalData B
      → TerminalData B → TerminalError E → Type 0
  TryDrawErr ran s t (Backend error) = FrameErr ran s t (Backend error)
  TryDrawErr {E = E} ran s t Memory = FrameErr ran {E = E} s t Memory
  TryDrawErr {E = E} ran s t Area = FrameErr ran {E = E} s t Area
  TryDrawErr ran s t (Closure error) = ClosureErr ran error s t
