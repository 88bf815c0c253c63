use Rattle.rtui_buffer.specs.Inner.{IsStyledPart}
use Rattle.rtui_buffer.proofs.buffer.painting.style_part.Given as goal

abbrev pub invariant-loop-i : goal.invariant-loop-i
invariant-loop-i l = IsStyledPart l.from l.i l.style l.initial.cells l.cells
