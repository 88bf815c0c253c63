use Rattle.rtui_widgets.specs.Changes.{ChangesEach}
use Rattle.rtui_widgets.proofs.ChangeLemmas.{rows_to}
use Rattle.rtui_widgets.proofs.change.change_part.Given as goal

abbrev pub invariant-loop-y : goal.invariant-loop-y
invariant-loop-y g l = ChangesEach (rows_to l.fn.part l.y) (g.C.CellChange.made l.fn.change) l.fn.buf l.buf
