use Rattle.std.proofs.Common.{codes, drop, map}
use Rattle.std.specs.List.{flat_map}
use Rattle.rtui_cell.specs.Look.{look_of}
use Rattle.rtui_backend.specs.Print.{printed_row}
use Rattle.rtui_backend.proofs.PrintLemmas.{HasWritten}
use Rattle.rtui_backend.proofs.test.print.write_history.Given as goal

abbrev pub invariant-loop-row : goal.invariant-loop-row
invariant-loop-row g l =
    let text = flat_map (λ row. printed_row (codes "^") (map look_of row.items)) in
    HasWritten (g.W.Write.contents l.initial.writer) (g.W.Write.contents l.writer) (text (drop l.row-index l.history))
    (text l.history)
