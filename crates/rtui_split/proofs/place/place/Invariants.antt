use Rattle.std.specs.List.{AllZip}
use Rattle.std.proofs.Common.{◌≡◌, ◌≤◌, ◌+◌, ◌-◌, ◌*◌, ◌/◌, ◌^◌, min, take, drop, All, sum_by}
use Rattle.rtui_split.specs.Cut.{IsPartAlong, InOrder, AtMostCells, AtLeastCells, AreEdges}
use Rattle.rtui_split.specs.{Units.cell_units, Inner.Slots.sizes_of, Inner.Spaces.HasRoomForSpaces, Inner.Spaces.IsCutTo}
use Rattle.rtui_split.proofs.place.place.Given as goal

abbrev pub invariant-loop-i : goal.invariant-loop-i
invariant-loop-i l = record {
  inside : All (IsPartAlong l.fn.lane.direction l.fn.lane.area l.fn.lane.start l.fn.lane.end) (take l.i l.parts);
  in_order : l.overlap ≡ 0 → InOrder l.fn.lane.direction l.fn.lane.start
      (l.fn.lane.start + (min l.at l.whole + l.rounding) / cell_units) (take l.i l.parts);
  at_most : AllZip (IsCutTo AtMostCells l.fn.lane.direction) (take l.i (sizes_of l.slots)) (take l.i l.parts);
  room : l.overlap ≡ 0 → HasRoomForSpaces l.fn.spaces ((l.fn.lane.end - l.fn.lane.start) * cell_units) (sizes_of l.slots)
      → l.at + sum_by (λ s. s + l.fn.spaces.middle) (drop l.i (sizes_of l.slots)) ≤ l.whole + l.fn.spaces.middle;
  at_least : l.overlap ≡ 0 → HasRoomForSpaces l.fn.spaces ((l.fn.lane.end - l.fn.lane.start) * cell_units) (sizes_of l.slots)
      → AllZip (IsCutTo AtLeastCells l.fn.lane.direction) (take l.i (sizes_of l.slots)) (take l.i l.parts);
  exact : l.overlap ≡ 0 → HasRoomForSpaces l.fn.spaces ((l.fn.lane.end - l.fn.lane.start) * cell_units) (sizes_of l.slots)
      → l.at ≡ min (l.fn.spaces.first + sum_by (λ s. s + l.fn.spaces.middle) (take l.i (sizes_of l.slots))) (2 ^ 64 - 1);
  edges : l.overlap ≡ 0 → HasRoomForSpaces l.fn.spaces ((l.fn.lane.end - l.fn.lane.start) * cell_units) (sizes_of l.slots)
      → AreEdges l.fn.lane.direction l.fn.lane.start l.rounding l.fn.spaces.middle l.fn.spaces.first (take l.i (sizes_of l.slots))
      (take l.i l.parts);
}
