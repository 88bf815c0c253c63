use Rattle.std.proofs.Common.{◌≡◌, length}
use Rattle.ratatui_core.specs.Text.{line_graphemes_left}
use Rattle.widget_paragraph.specs.Inner.{left_of_cut, IsCut}
use Rattle.widget_paragraph.proofs.cut.Cut.next.Given as goal

abbrev pub invariant-loop-grapheme : goal.invariant-loop-grapheme
invariant-loop-grapheme l = record {
  cut : IsCut l.self;
  width : l.self.width ≡ l.fn.self.width;
  used : l.self.used ≡ l.fn.self.used;
  left : left_of_cut l.fn.self ≡ left_of_cut l.self;
}

abbrev pub decreases-loop-grapheme : goal.decreases-loop-grapheme
decreases-loop-grapheme l = length (line_graphemes_left l.self.rest)
