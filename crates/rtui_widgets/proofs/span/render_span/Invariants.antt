use Rattle.std.proofs.Common.{◌≤◌, ◌<◌, length}
use Rattle.unicode_segmentation.specs.Iter.{graphemes_left}
use Rattle.rtui_buffer.specs.Painting.{KeepsUnmarked}
use Rattle.rtui_widgets.proofs.SpanLemmas.{HasShown}
use Rattle.rtui_widgets.proofs.span.render_span.Given as goal

abbrev pub invariant-loop-grapheme : goal.invariant-loop-grapheme
invariant-loop-grapheme l = record {
  can : (goal.iterator-loop-grapheme).can_next l.grapheme-iterator;
  ends : (goal.iterator-loop-grapheme).is_finite l.grapheme-iterator;
  some : 0 < length l.row;
  within : l.x ≤ length l.row;
  shown : HasShown l.style l.text l.x l.is_first (graphemes_left l.grapheme-iterator) l.fn.row l.row;
  marks : KeepsUnmarked l.fn.row l.row;
}
