use Rattle.std.proofs.Common.{◌≡◌, take}
use Rattle.widget_table.proofs.row.cloned_cells.Given as goal

abbrev pub invariant-loop-cell : goal.invariant-loop-cell
invariant-loop-cell l = l.cloned.items ≡ take l.cell-index l.cells
