use Rattle.rtui_widgets.specs.Changes.{ChangesEach}
use Rattle.rtui_widgets.proofs.ChangeLemmas.{columns_to}
use Rattle.rtui_widgets.proofs.change.change_row.Given as goal

abbrev pub invariant-loop-x : goal.invariant-loop-x
invariant-loop-x g l = ChangesEach (columns_to l.fn.part l.fn.y l.x) (g.C.CellChange.made l.fn.change) l.fn.buf l.buf
