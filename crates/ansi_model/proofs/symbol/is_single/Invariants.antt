use Rattle.std.proofs.Common.{◌≡◌, true}
use Rattle.std.specs.List.{list_all}
use Rattle.unicode_segmentation.specs.{Grapheme.graphemes, Iter.graphemes_left}
use Rattle.ansi_model.specs.Symbols.{is_columnless, is_single}
use Rattle.ansi_model.proofs.symbol.is_single.Given as goal

abbrev pub invariant-loop-grapheme : goal.invariant-loop-grapheme
invariant-loop-grapheme l = record {
  can : (goal.iterator-loop-grapheme).can_next l.grapheme-iterator;
  ends : (goal.iterator-loop-grapheme).is_finite l.grapheme-iterator;
  left : list_all is_columnless (graphemes_left l.grapheme-iterator) ≡ is_single (graphemes true l.text);
}
