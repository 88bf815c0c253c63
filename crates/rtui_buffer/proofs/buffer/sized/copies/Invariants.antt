use Rattle.std.proofs.Common.{◌≡◌, replicate, vec_len}
use Rattle.std.specs.Vec.{vec_capacity}
use Rattle.rtui_buffer.proofs.buffer.sized.copies.Given as goal

abbrev pub invariant-loop-i : goal.invariant-loop-i
invariant-loop-i l = record {
  items : l.cells.items ≡ replicate l._i l.cell;
  count : vec_len l.cells ≡ l._i;
  room : vec_capacity l.cells ≡ l.count;
}
