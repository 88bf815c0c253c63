-- What the headline says of the bytes: a terminal, however it was left, that has read all that a backend's
-- writer was sent.
use Rattle.std.specs.Prelude.{◌≡◌, ℕ, ◌<◌, true, false, List, ◌++◌}
use Rattle.ratatui_core.specs.Buffer.{Look, Grid, BufferData, ShowsBuffer}
use Rattle.ratatui_core.specs.{Backend.Screen, Terminal.TerminalData, Terminal.IsInStep}
use Rattle.ratatui_core.specs.Headline.{Event, Along, last_state, Does, IsFair}
use Rattle.ratatui_ansi.specs.Backend.{BackendState, shown_by}
use Rattle.ansi_model.specs.{Beginnings.IsAsFound, Beginnings.anew, Columns.look_in, Glass.MayShow}
use Rattle.ansi_model.specs.{Glass.IsStraight, Emulator.Emulator, Emulator.rested, Emulator.Phase.Ground}
use Rattle.ansi_model.specs.{Screens.screen_shown, Screens.IsIdle, Sequences.feed}

-- a screen with these rows before those of its history
abbrev pub below_rows : List (List Look) → Screen → Screen
below_rows rows s = record s { history = rows ++ s.history }

module _ {W : Type 0} where
  -- a terminal that was left so has read what was sent: it awaits text and is ready for the next call, real
  -- terminals don't differ on it, and it shows the backend's screen, its size, columns, cursor and whether
  -- that is shown, and after the rows that its history had those of the backend's. On the glass each row of
  -- the backend's screen stands as it is that has no letters written from the right
  pub record IsReadBy (b : BackendState W) (t : Emulator) : Type 0 where
    pub phase : (feed b.sent (anew t)).phase ≡ Ground
    pub sure : (rested (feed b.sent (anew t))).sure ≡ true
    pub ready : IsIdle b.size.width b.size.height (rested (feed b.sent (anew t)))
    pub screen : screen_shown b.written (rested (feed b.sent (anew t))) ≡ below_rows t.history (shown_by b)
    pub glass : (g : Grid)
        → MayShow (rested (feed b.sent (anew t))).modes.held b.size.width
        (rested (feed b.sent (anew t))).columns g
        → (x y : ℕ) → IsStraight b.size.width (shown_by b).grid y → x < b.size.width
        → g x y ≡ (shown_by b).grid x y

  -- so it is for each terminal of the backend's size
  abbrev pub IsReadByAll : BackendState W → Type 0
  IsReadByAll b = (t : Emulator) → IsAsFound b.size.width b.size.height t → IsReadBy b t

  -- the same, and each unskipped column of a buffer's area has its cell's look
  pub record IsShownToReader (frame : BufferData) (b : BackendState W) (t : Emulator) : Type 0 where
    pub read : IsReadBy b t
    pub shown : ShowsBuffer frame (λ x y. look_in ((rested (feed b.sent (anew t))).columns x y))

  -- so it is for each terminal of the backend's size, however it was left
  abbrev pub IsShownToAll : BufferData → BackendState W → Type 0
  IsShownToAll frame b = (t : Emulator) → IsAsFound b.size.width b.size.height t → IsShownToReader frame b t

  -- from in step, after any list of calls that answered Ok, and unless a write failed since the backend began
  -- or began anew, each terminal of its size that reads what was sent since shows the buffer that the last
  -- call left, however it was left before
  abbrev pub IsHeadlineOfBytes : TerminalData (BackendState W) → Type 0
  IsHeadlineOfBytes t =
      (s : TerminalData (BackendState W)) (events : List (Event (BackendState W))) → IsInStep shown_by s
      → Along (Does shown_by) s events → Along (IsFair shown_by) s events → last_state s events ≡ t
      → t.backend.is_broken ≡ false → IsShownToAll t.previous t.backend
