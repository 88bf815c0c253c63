use Rattle.std.proofs.Common.{◌≡◌, ◌+◌, ◌*◌, map}
use Rattle.std.specs.List.{range_with_len}
use Rattle.rtui_cell.specs.Look.{look_of}
use Rattle.rtui_backend.specs.CellGrid.{look_at, AreUnmarked, AreUnmarkedRows}
use Rattle.rtui_backend.proofs.test.scroll.copied_rows.Given as goal

abbrev pub invariant-loop-b : goal.invariant-loop-b
invariant-loop-b l = record {
  looks : map (λ row. map look_of row.items) l.rows.items ≡ map (λ b. map (λ a. look_at l.fn.cells (b * l.fn.width + a))
      (range_with_len 0 l.fn.width)) (range_with_len 0 l.b);
  unmarked : AreUnmarked l.fn.cells → AreUnmarkedRows (map (λ row. row.items) l.rows.items);
}
