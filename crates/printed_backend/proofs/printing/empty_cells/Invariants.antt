use Rattle.std.proofs.Common.{map}
use Rattle.rtui_cell.specs.Look.{look_of}
use Rattle.printed_backend.specs.Inner.{AreBlankLooks}
use Rattle.printed_backend.proofs.printing.empty_cells.Given as goal

abbrev pub invariant-loop : goal.invariant-loop
invariant-loop l = AreBlankLooks l.counter (map look_of l.cells.items)
