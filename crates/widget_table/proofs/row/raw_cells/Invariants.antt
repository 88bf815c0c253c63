use Rattle.std.proofs.Common.{◌≡◌, take, map}
use Rattle.widget_table.specs.Rows.{raw_cell}
use Rattle.widget_table.proofs.row.raw_cells.Given as goal

abbrev pub invariant-loop-text : goal.invariant-loop-text
invariant-loop-text l = l.cells.items ≡ map (λ text. raw_cell text.now) (take l.text-index l.texts)
