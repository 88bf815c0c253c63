use Rattle.std.proofs.Common.{ℕ, ◌<◌}
use Rattle.rtui_diff.specs.{Cells.cell, Settled.IsBlankOrSkipped}
use Rattle.rtui_diff.proofs.settled.is_settled_at.Given as goal

abbrev pub invariant-loop-k : goal.invariant-loop-k
invariant-loop-k l = record {
  low : l.at < l.k;
  before : (j : ℕ) → l.at < j → j < l.k → IsBlankOrSkipped (cell l.cells j);
}
