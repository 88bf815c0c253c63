use Rattle.std.proofs.Common.{◌≡◌, ℕ, true, ◌<◌, ◌≤◌}
use Rattle.rtui_cell.specs.Cell.{is_skipped, width_of}
use Rattle.rtui_diff.specs.Cells.{cell}
use Rattle.rtui_insert.proofs.marks.mark_skipped.Given as goal

abbrev pub invariant-loop-k : goal.invariant-loop-k
invariant-loop-k l = record {
  skipped : (j : ℕ) → j < l.k → is_skipped (cell l.cells j) ≡ true;
  narrow : (j : ℕ) → j < l.k → width_of (cell l.cells j) ≡ 1;
  rest : (j : ℕ) → l.k ≤ j → cell l.cells j ≡ cell l.fn.cells j;
}
