use Rattle.std.proofs.Common.{◌≡◌, [], length}
use Rattle.unicode_segmentation.specs.Iter.{graphemes_left}
use Rattle.rtui_text.specs.Graphemes.{span_graphemes_left}
use Rattle.rtui_text.proofs.span_graphemes.SpanGraphemesIterator.next.Given as goal

abbrev pub invariant-loop-symbol : goal.invariant-loop-symbol
invariant-loop-symbol l = (l.self.front.now ≡ []) × ((l.self.ahead.now ≡ [])
    × (span_graphemes_left l.self ≡ span_graphemes_left l.initial.self))

abbrev pub decreases-loop-symbol : goal.decreases-loop-symbol
decreases-loop-symbol l = length (graphemes_left l.self.graphemes)
