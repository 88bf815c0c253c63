use Rattle.std.proofs.Common.{◌+◌, None}
use Rattle.ratatui_core.specs.{Widgets.ChangesWithin, Buffer.IsReadyFrom}
use Rattle.widget_paragraph.specs.Paragraphs.{rows_of_lines}
use Rattle.widget_paragraph.proofs.RowsLemmas.{FinishesCut}
use Rattle.widget_paragraph.proofs.paragraph.Paragraph.render_truncated.Given as goal

abbrev pub invariant-loop-k : goal.invariant-loop-k
invariant-loop-k l = record {
  within : ChangesWithin l.fn.part l.fn.buf l.buf;
  paints : FinishesCut l.fn.part l.k l.fn.self.scroll.y (rows_of_lines None l.fn.self l.fn.part.width l.fn.self.text.lines)
      l.fn.buf l.buf;
  ready : IsReadyFrom l.fn.part.y l.fn.buf → IsReadyFrom (l.fn.part.y + l.k) l.buf;
}
