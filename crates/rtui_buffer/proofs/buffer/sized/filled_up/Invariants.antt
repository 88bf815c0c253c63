use Rattle.std.proofs.Common.{◌≡◌, ◌-◌, ◌++◌, vec_len}
use Rattle.std.specs.Vec.{vec_capacity}
use Rattle.rtui_buffer.specs.BufferData.{empty_cells}
use Rattle.rtui_buffer.proofs.buffer.sized.filled_up.Given as goal

abbrev pub invariant-loop-i : goal.invariant-loop-i
invariant-loop-i l = record {
  items : l.cells.items ≡ l.initial.cells.items ++ empty_cells (l._i - vec_len l.initial.cells);
  count : vec_len l.cells ≡ l._i;
  room : vec_capacity l.cells ≡ vec_capacity l.initial.cells;
}
