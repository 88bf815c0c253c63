use Rattle.std.proofs.Common.{ℕ, ◌<◌}
use Rattle.rtui_diff.specs.Settled.{IsSettledAt}
use Rattle.rtui_diff.proofs.settled.is_settled.Given as goal

abbrev pub invariant-loop-at : goal.invariant-loop-at
invariant-loop-at l = record {
  before : (i : ℕ) → i < l.at → IsSettledAt l.width l.cells i;
}
