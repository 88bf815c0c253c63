use Rattle.std.proofs.Common.{◌-◌, ◌≤◌, drop}
use Rattle.rtui_buffer.specs.Line.{line_pieces}
use Rattle.rtui_buffer.proofs.RefusedLemmas.{PaintsSoFar}
use Rattle.rtui_buffer.proofs.buffer.lines.paint_spans.Given as goal

abbrev pub invariant-loop-span : goal.invariant-loop-span
invariant-loop-span l = record {
  within : l.used ≤ l.room;
  so_far : PaintsSoFar l.start l.used (line_pieces (l.room - l.used) l.base (drop l.span-index l.spans))
      (line_pieces l.room l.base l.spans) l.initial.cells l.cells;
}
