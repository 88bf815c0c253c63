use Rattle.std.proofs.Common.{take, drop, All}
use Rattle.rtui_split.specs.Cut.{InOrder, SpansAcross}
use Rattle.rtui_split.proofs.CutLemmas.{InTurn}
use Rattle.rtui_split.proofs.place.place_spaces.Given as goal

abbrev pub invariant-loop-i : goal.invariant-loop-i
invariant-loop-i l = record {
  across : All (SpansAcross l.fn.lane.direction l.fn.lane.area) (take l.i l.spaces);
  done : InOrder l.fn.lane.direction l.fn.lane.start l.fn.lane.end l.parts
      → InTurn l.fn.lane.direction l.fn.lane.start l.before (take l.i l.spaces) (take l.i l.parts);
  rest : InOrder l.fn.lane.direction l.fn.lane.start l.fn.lane.end l.parts
      → InOrder l.fn.lane.direction l.before l.fn.lane.end (drop l.i l.parts);
}
