use Rattle.std.proofs.Common.{◌≤◌, ◌+◌, Some, drop}
use Rattle.ratatui_core.specs.{Widgets.ChangesWithin, Buffer.IsReadyFrom}
use Rattle.widget_paragraph.specs.Paragraphs.{rows_of_lines}
use Rattle.widget_paragraph.proofs.RowsLemmas.{FinishesRows}
use Rattle.widget_paragraph.proofs.paragraph.Paragraph.render_wrapped.Given as goal

abbrev pub invariant-loop-line : goal.invariant-loop-line
invariant-loop-line l = record {
  row : l.filling.row ≤ l.fn.part.height;
  within : ChangesWithin l.fn.part l.fn.buf l.buf;
  paints : FinishesRows l.fn.part l.filling (rows_of_lines (Some l.fn.wrap) l.fn.self l.fn.part.width
      (drop l.line-index l.line-items)) (record { skip = l.fn.self.scroll.y; row = 0 })
      (rows_of_lines (Some l.fn.wrap) l.fn.self l.fn.part.width l.fn.self.text.lines) l.fn.buf l.buf;
  ready : IsReadyFrom l.fn.part.y l.fn.buf → IsReadyFrom (l.fn.part.y + l.filling.row) l.buf;
}
