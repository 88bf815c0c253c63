-- What a tracker knows of its terminal between two calls.
use Rattle.std.specs.Prelude.{◌≡◌, ℕ, ◌*◌, ◌<◌, ◌≤◌, Bool, List, length}
use Rattle.ratatui_core.specs.Layout.{Position, Size}
use Rattle.ratatui_core.specs.Backend.{cursor_of}
use Rattle.ansi_model.specs.{Emulator.Emulator, Emulator.rested, Emulator.Phase.Ground}
use Rattle.ansi_model.specs.{Screens.screen_shown, Screens.IsIdle, Flags.AreContinuations}

-- a terminal between two calls: it awaits text and is idle, with its cursor there and these flags
pub record IsAwaiting (w h : ℕ) (cursor : Position) (flags : List Bool) (t : Emulator) : Type 0 where
  pub phase : t.phase ≡ Ground
  pub ready : IsIdle w h (rested t)
  pub continuations : AreContinuations w h flags (rested t).columns
  pub placed : cursor_of (screen_shown 0 (rested t)) ≡ cursor

-- a screen of this size has columns and rows, at most 65535 of these, and a flag for each column, also for a
-- draft
pub record FitsScreen (size : Size) (flags draft : List Bool) : Type 0 where
  pub columns : 0 < size.width
  pub rows : 0 < size.height
  pub most : size.height ≤ 65535
  pub count : length flags ≡ size.width * size.height
  pub draft_count : length draft ≡ size.width * size.height
