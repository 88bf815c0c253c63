use Rattle.ratatui_core.specs.Buffer.{ChangesEach}
use Rattle.rtui_widgets.proofs.ChangeLemmas.{rows_to}
use Rattle.widget_boxes.specs.Inner.{highlighted}
use Rattle.widget_boxes.proofs.highlights.highlight_part.Given as goal

abbrev pub invariant-loop-y : goal.invariant-loop-y
invariant-loop-y l = ChangesEach (rows_to l.fn.part l.y) (highlighted l.fn.style l.fn.part l.fn.buf) l.fn.buf l.buf
