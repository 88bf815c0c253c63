use Rattle.std.proofs.Common.{◌<◌, ℕ}
use Rattle.ratatui_core.specs.{Buffer.raw_lines, Backend.screen_of}
use Rattle.rtui_buffer.specs.Line.{line_at}
use Rattle.rtui_backend.specs.ScreenLines.{RowHasLine}
use Rattle.ratatui_test.proofs.lines.first_symbol.Given as goal

abbrev pub invariant-loop-y : goal.invariant-loop-y
invariant-loop-y l = (b : ℕ) → b < l.y → RowHasLine (line_at (raw_lines l.lines) b) (screen_of l.backend) b
