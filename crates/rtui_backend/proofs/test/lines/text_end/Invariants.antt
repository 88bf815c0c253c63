use Rattle.std.proofs.Common.{length, ◌-◌, ◌≤◌, Option, ℕ}
use Rattle.unicode_segmentation.specs.Iter.{graphemes_left}
use Rattle.rtui_style.specs.Style.{new_style}
use Rattle.rtui_buffer.specs.Painting.{kept, pieces, text_pieces}
use Rattle.rtui_backend.specs.Inner.{symbol_in, EndsAfter}
use Rattle.rtui_backend.proofs.test.lines.text_end.Given as goal

abbrev pub invariant-loop-grapheme : goal.invariant-loop-grapheme
invariant-loop-grapheme l = record {
  can : (goal.iterator-loop-grapheme).can_next l.grapheme-iterator;
  ends : (goal.iterator-loop-grapheme).is_finite l.grapheme-iterator;
  within : l.end ≤ length l.row;
  left : (o : Option ℕ) → EndsAfter (symbol_in l.row) l.end
      (pieces new_style (kept (length l.row - l.end) (graphemes_left l.grapheme-iterator))) o
      → EndsAfter (symbol_in l.row) l.x (text_pieces (length l.row - l.x) new_style l.text) o;
}
