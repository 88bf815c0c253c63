use Rattle.std.proofs.Common.{◌≡◌, ◌+◌, drop}
use Rattle.rtui_text.specs.Printable.{singles}
use Rattle.rtui_buffer.specs.Painting.{pieces}
use Rattle.rtui_buffer.specs.Painted.{painted}
use Rattle.rtui_buffer.proofs.buffer.painting.paint_printable.Given as goal

abbrev pub invariant-loop-i : goal.invariant-loop-i
invariant-loop-i l = painted (l.start + l.i) (pieces l.style (singles (drop l.i l.bytes))) l.cells ≡ painted l.start
    (pieces l.style (singles l.bytes)) l.initial.cells
