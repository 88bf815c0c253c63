use Rattle.std.proofs.Common.{◌≡◌, max, drop}
use Rattle.rtui_buffer.specs.Line.{widest}
use Rattle.rtui_buffer.proofs.buffer.lines.lines_width.Given as goal

abbrev pub invariant-loop-line : goal.invariant-loop-line
invariant-loop-line l = max l.width (widest (drop l.line-index l.lines)) ≡ widest l.lines
