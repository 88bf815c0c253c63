use Rattle.std.proofs.Common.{◌-◌, ◌≡◌, ◌*◌, ◌≤◌}
use Rattle.rtui_diff.proofs.diff.row_with.Given as goal

abbrev pub invariant-loop-row : goal.invariant-loop-row
invariant-loop-row l = record {
  start : l.row.start ≡ l.row.index * l.width;
  begun : l.row.start ≤ l.at;
}

abbrev pub decreases-loop-row : goal.decreases-loop-row
decreases-loop-row l = l.at - l.row.start
