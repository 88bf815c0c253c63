use Rattle.std.proofs.Common.{◌≡◌, ◌++◌, drop, map, string_bytes}
use Rattle.rtui_cell.specs.Look.{look_of}
use Rattle.rtui_backend.specs.Print.{row_text}
use Rattle.printed_backend.proofs.printing.push_cells.Given as goal

abbrev pub invariant-loop-cell : goal.invariant-loop-cell
invariant-loop-cell l =
    string_bytes l.text ++ row_text l.behind (map look_of (drop l.cell-index l.cells))
    ≡ string_bytes l.initial.text ++ row_text 0 (map look_of l.cells)
