-- Rows above an inline viewport, and a frame below them.
use Rattle.std.specs.Prelude.{◌∷◌, [], Result, Ok}
use Rattle.std.specs.declared.alloc.AllocError.{AllocError}
use Rattle.ratatui_core.specs.{Buffer.BufferData, Buffer.IsSettledBuffer, Backend.Screen}
use Rattle.ratatui_core.specs.Terminal.{TerminalData, IsInStep, rows_over, AppendsRows}

-- exactly the rows that were filled came to those above, and the screen shows the frame, if those rows are
-- settled
pub record Logs {B : Type 0} (screen : B → Screen) (filled : Result (Unit {0}) AllocError → BufferData
    → Type 0) (s t : TerminalData B) : Type 0 where
  pub rows : BufferData
  pub closure : filled (Ok tt) rows
  pub above : IsSettledBuffer rows → AppendsRows (rows ∷ []) (rows_over screen s) (rows_over screen t)
  pub in_step : IsSettledBuffer rows → IsInStep screen t
