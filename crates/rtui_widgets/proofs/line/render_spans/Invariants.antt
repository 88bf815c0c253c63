use Rattle.std.proofs.Common.{◌≤◌, length, drop}
use Rattle.rtui_widgets.specs.Line.{parts}
use Rattle.rtui_buffer.specs.Painting.{KeepsUnmarked}
use Rattle.rtui_widgets.proofs.LineLemmas.{HasDone}
use Rattle.rtui_widgets.proofs.line.render_spans.Given as goal

abbrev pub invariant-loop-span : goal.invariant-loop-span
invariant-loop-span l = record {
  within : l.start ≤ length l.row;
  marks : KeepsUnmarked l.initial.row l.row;
  done : HasDone (parts l.fn.skip l.spans) (parts l.skip (drop l.span-index l.spans)) l.start l.initial.row l.row;
}
