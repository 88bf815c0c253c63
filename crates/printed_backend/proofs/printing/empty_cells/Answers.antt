use Rattle.rtui_cell.specs.Look.{look_of, empty_look}
use Rattle.rtui_cell.proofs.CellLemmas.{look-empty}
use Rattle.rtui_backend.proofs.ShiftLemmas.{looks_pushed}
use Rattle.printed_backend.proofs.printing.empty_cells.Goals as goal

pub loop-preserved : goal.loop-preserved
loop-preserved c = looks_pushed look_of (λ a. empty_look) c.loop.cells.items _ _ c.loop.counter c.in_ok-push.ensures.items
    c.loop.invariant look-empty
