use Rattle.std.proofs.Common.{◌≡◌, ◌≤◌, ◌+◌, length}
use Rattle.ratatui_core.specs.{Widgets.ChangesWithin, Buffer.IsReadyFrom}
use Rattle.widget_paragraph.specs.{Inner.HoldsNext, Inner.left_of, Reflow.AllFit, Reflow.broken_rows, Paragraphs.aligned_rows}
use Rattle.widget_paragraph.proofs.RowsLemmas.{rows_left, FinishesRows}
use Rattle.widget_paragraph.proofs.paragraph.render_line.Given as goal

abbrev pub invariant-loop-alignment : goal.invariant-loop-alignment
invariant-loop-alignment l = record {
  line : HoldsNext l.line;
  width : l.line.width ≡ l.fn.part.width;
  trim : l.line.trim ≡ l.fn.line.trim;
  fit : AllFit l.fn.part.width (left_of l.line);
  row : l.next.row ≤ l.fn.part.height;
  within : ChangesWithin l.fn.part l.fn.buf l.buf;
  paints : FinishesRows l.fn.part l.next
      (aligned_rows l.fn.alignment (rows_left l.fn.part.width l.fn.line.trim (left_of l.line))) l.fn.filling
      (aligned_rows l.fn.alignment (broken_rows l.fn.part.width l.fn.line.trim (left_of l.fn.line))) l.fn.buf l.buf;
  ready : IsReadyFrom (l.fn.part.y + l.fn.filling.row) l.fn.buf → IsReadyFrom (l.fn.part.y + l.next.row) l.buf;
}

abbrev pub decreases-loop-alignment : goal.decreases-loop-alignment
decreases-loop-alignment l = length (left_of l.line)
