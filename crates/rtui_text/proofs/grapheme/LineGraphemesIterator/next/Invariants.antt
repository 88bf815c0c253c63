use Rattle.std.proofs.Common.{◌≡◌, length}
use Rattle.std.specs.Slice.Iter.{iter_rest}
use Rattle.rtui_text.specs.Graphemes.{line_graphemes_left}
use Rattle.rtui_text.proofs.grapheme.LineGraphemesIterator.next.Given as goal

abbrev pub invariant-loop-grapheme : goal.invariant-loop-grapheme
invariant-loop-grapheme l = line_graphemes_left l.self ≡ line_graphemes_left l.initial.self

abbrev pub decreases-loop-grapheme : goal.decreases-loop-grapheme
decreases-loop-grapheme l = length (iter_rest l.self.spans)
