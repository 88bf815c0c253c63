use Rattle.std.proofs.Common.{drop, map}
use Rattle.rtui_cell.specs.Look.{look_of}
use Rattle.rtui_backend.specs.Print.{row_text}
use Rattle.rtui_backend.proofs.PrintLemmas.{HasWritten}
use Rattle.rtui_backend.proofs.test.print.write_cells.Given as goal

abbrev pub invariant-loop-cell : goal.invariant-loop-cell
invariant-loop-cell g l =
    HasWritten (g.W.Write.contents l.initial.writer) (g.W.Write.contents l.writer)
    (row_text l.behind (map look_of (drop l.cell-index l.cells))) (row_text 0 (map look_of l.cells))
