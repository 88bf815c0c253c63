use Rattle.std.proofs.Common.{◌≡◌, ◌+◌, ◌-◌, ◌≤◌, length}
use Rattle.widget_list.specs.Windows.{rows_before}
use Rattle.widget_list.proofs.window.count_from.Given as goal

abbrev pub invariant-loop-count : goal.invariant-loop-count
invariant-loop-count l = record {
  inside : l.fn.from + l.count ≤ length l.fn.items;
  rows : rows_before l.fn.items (l.fn.from + l.count) + l.left ≡ rows_before l.fn.items l.fn.from + l.fn.height;
}

abbrev pub decreases-loop-count : goal.decreases-loop-count
decreases-loop-count l = length l.fn.items - l.fn.from - l.count
