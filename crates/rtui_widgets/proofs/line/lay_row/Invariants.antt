use Rattle.std.proofs.Common.{ℕ, ◌≡◌, ◌<◌, ◌≤◌, get_or}
use Rattle.rtui_cell.specs.Cell.{styled, empty_cell}
use Rattle.rtui_widgets.proofs.line.lay_row.Given as goal

abbrev pub invariant-loop-cell : goal.invariant-loop-cell
invariant-loop-cell l = record {
  done : (k : ℕ) → k < l.cell-index → get_or l.row k empty_cell ≡ styled l.style (get_or l.initial.row k empty_cell);
  left : (k : ℕ) → l.cell-index ≤ k → get_or l.row k empty_cell ≡ get_or l.initial.row k empty_cell;
}
