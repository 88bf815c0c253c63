-- What is on the glass of a terminal that is sent bytes, and how a turn moves it; how it begins and is given
-- back.
use Rattle.std.specs.Prelude.{◌≡◌, ◌⊎◌, ℕ, true, false, List, ◌++◌, Option, Some, None}
use Rattle.ratatui_core.specs.{Layout.Rect, Layout.Position, Buffer.BufferData, Backend.cursor_of}
use Rattle.ratatui_core.specs.Backend.{size_of}
use Rattle.ratatui_core.specs.Terminal.{TerminalData, TerminalError, ShowsRendered, HasCursor, Stays}
use Rattle.ratatui_core.specs.Terminal.{Starts, Viewport, IsBackendFault}
use Rattle.ansi_model.specs.Commands.{size_question}
use Rattle.ratatui_ansi.specs.Backend.{BackendState, LeavesTerminal, BringsBack, shown_by, is_flushed}
use Rattle.ratatui_ansi.specs.{declared.error.AnsiError.AnsiError, Refusals.StopsSending}
use Rattle.ratatui_ansi.specs.Headline.{IsShownToAll}
use Rattle.ratatui_acts.specs.declared.told.Told.{Told}
use Rattle.ratatui_app.specs.Showing.{Device, RestsUnfixed}
use Rattle.ratatui_app.specs.Moving.{MovesAsTold, StopsShowing}

-- a terminal that is sent bytes
abbrev pub sender : {W : Type 0} → Device (BackendState W) AnsiError
sender = record {
  screen = shown_by;
  failures = λ b. b.failures;
  is_flushed = is_flushed;
  stops_at = StopsSending;
}

-- no cursor
abbrev pub no_cursor : Rect → Option Position
no_cursor _ = None

-- painting may take memory everywhere
abbrev pub never_short : {S : Type 0} → S → Rect → BufferData → Type 0
never_short _ _ _ = ⊥

module _ {W : Type 0} where
  -- a frame can be drawn, and no call has failed
  pub record CanShow (t : TerminalData (BackendState W)) : Type 0 where
    pub rest : RestsUnfixed shown_by t
    pub unfailed : t.backend.failures ≡ 0

  -- a buffer that is what painting makes of an empty one is shown by each terminal of the backend's size that
  -- has read what was sent, however it was left before; the cursor stands where it is wanted, or is hidden;
  -- and all was flushed
  pub record StandsOnGlass (paints : Rect → BufferData → BufferData → Type 0) (cursor : Rect → Option Position)
      (t : TerminalData (BackendState W)) : Type 0 where
    pub ready : CanShow t
    pub painted : ShowsRendered shown_by paints t
    pub placed : HasCursor (cursor t.viewport_area) (shown_by t.backend)
    pub shown : IsShownToAll t.previous t.backend
    pub flushed : is_flushed t.backend ≡ true

  -- a turn moved the terminal, and after it this may have been asked for its size
  pub record MovesAndAsks (told : Told) (s t : TerminalData (BackendState W)) : Type 0 where
    pub shown : TerminalData (BackendState W)
    pub moved : MovesAsTold sender told s shown
    pub asked : Stays shown_by shown t
    pub faults : t.backend.failures ≡ shown.backend.failures

  -- the screen has the size that was told, or, if none was, the one that it had
  abbrev pub HasSizeTold : Option (ℕ × ℕ) → TerminalData (BackendState W) → TerminalData (BackendState W) → Type 0
  HasSizeTold None s t = size_of (shown_by t.backend) ≡ size_of (shown_by s.backend)
  HasSizeTold (Some size) s t =
      size_of (shown_by t.backend) ≡ record { width = size.0; height = size.1 }

  -- a frame was shown, and then the backend failed at the question for the size
  pub record StopsAsking (told : Told) (s t : TerminalData (BackendState W)) (error : TerminalError AnsiError)
      : Type 0 where
    pub fault : IsBackendFault error
    pub shown : TerminalData (BackendState W)
    pub moved : MovesAsTold sender told s shown
    pub only : t ≡ record shown { backend = t.backend }

  -- where showing a state stops: at its frame; or, after it, at the question for the size
  abbrev pub StopsOnGlass : (Rect → BufferData → BufferData → Type 0) → (Rect → BufferData → Type 0)
      → (Rect → Option Position)
      → Told → TerminalData (BackendState W) → TerminalData (BackendState W) → TerminalError AnsiError → Type 0
  StopsOnGlass paints is_short cursor told s t error =
      StopsShowing sender paints is_short cursor told s t error ⊎ StopsAsking told s t error

-- a terminal was asked for its size, and begun on the backend's screen
pub record Begins {W : Type 0} (viewport : Viewport) (backend : BackendState W)
    (t : TerminalData (BackendState W)) : Type 0 where
  pub asked : BackendState W
  pub asks : asked.sent ≡ backend.sent ++ size_question (cursor_of (shown_by backend))
  pub shown : shown_by asked ≡ shown_by backend
  pub starts : Starts shown_by viewport asked t
  pub faults : t.backend.failures ≡ backend.failures

-- a writer holds bytes that give the terminal back: it stands below its last row, or has its main screen
-- again
pub record IsGivenBack {W : Type 0} (b : BackendState W) (contents : Option (List ℕ)) : Type 0 where
  pub left : b.is_on_alternate ≡ false → LeavesTerminal b contents
  pub back : b.is_on_alternate ≡ true → BringsBack b contents
