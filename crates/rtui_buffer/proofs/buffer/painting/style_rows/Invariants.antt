use Rattle.rtui_buffer.specs.Inner.{IsStyledRows}
use Rattle.rtui_buffer.proofs.buffer.painting.style_rows.Given as goal

abbrev pub invariant-loop-row : goal.invariant-loop-row
invariant-loop-row l = IsStyledRows l.width l.left l.right l.top l.row l.style l.initial.cells l.cells
