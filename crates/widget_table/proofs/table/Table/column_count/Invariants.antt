use Rattle.std.proofs.Common.{◌≡◌, max, drop}
use Rattle.widget_table.specs.Tables.{most_cells, column_count}
use Rattle.widget_table.proofs.table.Table.column_count.Given as goal

abbrev pub invariant-loop-row : goal.invariant-loop-row
invariant-loop-row l = max l.count (most_cells (drop l.row-index l.fn.self.rows.items)) ≡ column_count l.fn.self
