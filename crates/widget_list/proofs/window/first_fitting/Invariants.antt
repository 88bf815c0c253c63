use Rattle.std.proofs.Common.{◌≡◌, ◌+◌, ◌≤◌}
use Rattle.widget_list.specs.Windows.{rows_before}
use Rattle.widget_list.proofs.window.first_fitting.Given as goal

abbrev pub invariant-loop-first : goal.invariant-loop-first
invariant-loop-first l = record {
  from : l.fn.least ≤ l.first;
  to : l.first ≤ l.fn.last;
  rows : rows_before l.fn.items (l.fn.last + 1) + l.left ≡ rows_before l.fn.items l.first + l.fn.height;
}

abbrev pub decreases-loop-first : goal.decreases-loop-first
decreases-loop-first l = l.first
