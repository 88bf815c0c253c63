use Rattle.std.proofs.Common.{◌≡◌, ◌+◌, ◌≤◌}
use Rattle.widget_table.specs.Rows.{height_before}
use Rattle.widget_table.proofs.view.first_fitting.Given as goal

abbrev pub invariant-loop-first : goal.invariant-loop-first
invariant-loop-first l = record {
  from : l.fn.least ≤ l.first;
  to : l.first ≤ l.fn.last;
  rows : height_before l.fn.rows l.fn.last + l.fn.shown + l.left ≡ height_before l.fn.rows l.first + l.fn.height;
}

abbrev pub decreases-loop-first : goal.decreases-loop-first
decreases-loop-first l = l.first
