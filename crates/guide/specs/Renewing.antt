-- A frame, a clear, a resize and rows above the viewport, as one list of calls.
use Rattle.std.specs.Prelude.{◌∷◌, [], Result, Ok}
use Rattle.std.specs.declared.alloc.AllocError.{AllocError}
use Rattle.ratatui_core.specs.{Layout.Rect, Buffer.BufferData, Buffer.IsSettledBuffer, Backend.Screen}
use Rattle.ratatui_core.specs.{Backend.IsOnScreen}
use Rattle.ratatui_core.specs.Terminal.{TerminalData, TakesRows}
use Rattle.ratatui_core.specs.Headline.{Draw, Clear, Resize, Insert, Along, IsFaithful}

-- the states after the first three calls, and that above an inline viewport each of the four was faithful, if
-- the rows that were filled are settled and had their place, and the viewport lay on the screen
pub record Renews {B : Type 0} (screen : B → Screen) (area : Rect)
    (filled : TerminalData B → Result (Unit {0}) AllocError → BufferData → Type 0)
    (s t : TerminalData B) : Type 0 where
  pub drawn : TerminalData B
  pub cleared : TerminalData B
  pub resized : TerminalData B
  pub faithful : TakesRows screen resized → IsOnScreen resized.viewport_area (screen resized.backend)
      → (rows : BufferData) × filled resized (Ok tt) rows
      × (IsSettledBuffer rows → Along (IsFaithful screen) s (
      record { call = Draw drawn.previous; after = drawn } ∷ record {
        call = Clear;
        after = cleared;
      } ∷ record { call = Resize area; after = resized } ∷ record {
        call = Insert rows;
        after = t;
      } ∷ []))
