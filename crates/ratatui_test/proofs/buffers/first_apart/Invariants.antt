use Rattle.std.proofs.Common.{◌<◌, ℕ, slice_index_or}
use Rattle.ratatui_core.specs.Buffer.{IsEqual, empty_cell}
use Rattle.ratatui_test.proofs.buffers.first_apart.Given as goal

abbrev pub invariant-loop-i : goal.invariant-loop-i
invariant-loop-i l = (k : ℕ) → k < l.i
    → IsEqual (slice_index_or l.left k empty_cell) (slice_index_or l.right k empty_cell)
