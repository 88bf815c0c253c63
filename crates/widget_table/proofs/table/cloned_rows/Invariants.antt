use Rattle.std.proofs.Common.{◌≡◌, take, true}
use Rattle.std.specs.Cmp.Lexicographic.{pointwise}
use Rattle.widget_table.specs.contracts.row.RowPartialEq.TheImpl.{eq-value}
use Rattle.widget_table.proofs.table.cloned_rows.Given as goal

abbrev pub invariant-loop-row : goal.invariant-loop-row
invariant-loop-row l = pointwise eq-value.it (take l.row-index l.rows) l.cloned.items ≡ true
