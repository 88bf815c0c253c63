use Rattle.std.proofs.Common.{◌-◌, ◌≤◌}
use Rattle.unicode_segmentation.specs.Iter.{graphemes_left}
use Rattle.rtui_buffer.specs.Painting.{kept, pieces, text_pieces}
use Rattle.rtui_buffer.proofs.RefusedLemmas.{PaintsSoFar}
use Rattle.rtui_buffer.proofs.buffer.painting.paint_graphemes.Given as goal

abbrev pub invariant-loop-grapheme : goal.invariant-loop-grapheme
invariant-loop-grapheme l = record {
  can : (goal.iterator-loop-grapheme).can_next l.grapheme-iterator;
  ends : (goal.iterator-loop-grapheme).is_finite l.grapheme-iterator;
  within : l.used ≤ l.room;
  so_far : PaintsSoFar l.start l.used (pieces l.style (kept (l.room - l.used) (graphemes_left l.grapheme-iterator)))
      (text_pieces l.room l.style l.text) l.initial.cells l.cells;
}
