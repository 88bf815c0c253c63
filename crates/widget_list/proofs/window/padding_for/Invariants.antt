use Rattle.std.proofs.Common.{◌≡◌, ◌+◌, ◌-◌, ◌≤◌, min, length}
use Rattle.widget_list.specs.Windows.{rows_before, first_kept, last_kept}
use Rattle.widget_list.proofs.window.padding_for.Given as goal

abbrev pub invariant-loop-padding : goal.invariant-loop-padding
invariant-loop-padding l = record {
  most : l.padding ≤ min l.fn.asked (length l.fn.items);
  rows : rows_before l.fn.items (last_kept l.fn.items l.fn.selected l.padding + 1) + l.left ≡ rows_before l.fn.items
      (first_kept l.fn.selected l.padding) + l.fn.height;
}

abbrev pub decreases-loop-padding : goal.decreases-loop-padding
decreases-loop-padding l = l.most - l.padding
