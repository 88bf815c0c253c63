use Rattle.std.proofs.Common.{ℕ, ◌<◌}
use Rattle.rtui_buffer.specs.Line.{raw_lines, line_at}
use Rattle.rtui_backend.specs.{ScreenLines.RowHasLine, TestBackend.screen_of}
use Rattle.rtui_backend.proofs.test.TestBackend.lines_are.Given as goal

abbrev pub invariant-loop-y : goal.invariant-loop-y
invariant-loop-y l = (b : ℕ) → b < l.y → RowHasLine (line_at (raw_lines l.lines) b) (screen_of l.self) b
