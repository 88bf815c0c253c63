use Rattle.std.proofs.Common.{◌≡◌, ◌≤◌, false, length}
use Rattle.ratatui_core.specs.Text.{line_graphemes_left}
use Rattle.widget_paragraph.specs.Inner.{columns_ahead, held_of, left_of, HasLeft}
use Rattle.widget_paragraph.proofs.ahead.Ahead.fill.Given as goal

abbrev pub invariant-loop-ahead : goal.invariant-loop-ahead
invariant-loop-ahead l = record {
  within : l.self.passed ≤ length l.self.held.items;
  unread : l.self.is_read ≡ false;
  left : HasLeft (left_of l.fn.self) l.fn.self l.self;
  ahead : l.ahead ≤ columns_ahead l.self.trim (held_of l.self);
}

abbrev pub decreases-loop-ahead : goal.decreases-loop-ahead
decreases-loop-ahead l = length (line_graphemes_left l.self.rest)
