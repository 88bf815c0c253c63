use Rattle.std.proofs.Common.{◌≡◌, ◌+◌, map}
use Rattle.std.specs.List.{range_with_len}
use Rattle.rtui_cell.specs.Look.{look_of}
use Rattle.rtui_backend.specs.CellGrid.{look_at, AreUnmarked}
use Rattle.rtui_backend.proofs.test.scroll.copied_row.Given as goal

abbrev pub invariant-loop-a : goal.invariant-loop-a
invariant-loop-a l = record {
  looks : map look_of l.row.items ≡ map (λ a. look_at l.fn.cells (l.fn.start + a)) (range_with_len 0 l.a);
  unmarked : AreUnmarked l.fn.cells → AreUnmarked l.row.items;
}
