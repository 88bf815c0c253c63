use Rattle.std.proofs.Common.{◌≡◌, true}
use Rattle.unicode_segmentation.specs.{Grapheme.graphemes, Iter.graphemes_left}
use Rattle.follow.specs.Inner.{fills_row}
use Rattle.follow.proofs.shown.is_filled.Given as goal

abbrev pub invariant-loop-grapheme : goal.invariant-loop-grapheme
invariant-loop-grapheme l = record {
  can : (goal.iterator-loop-grapheme).can_next l.grapheme-iterator;
  ends : (goal.iterator-loop-grapheme).is_finite l.grapheme-iterator;
  left : fills_row l.left (graphemes_left l.grapheme-iterator) ≡ fills_row l.columns (graphemes true l.text);
}
