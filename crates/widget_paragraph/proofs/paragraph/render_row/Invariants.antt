use Rattle.std.proofs.Common.{◌≤◌, ◌+◌, drop}
use Rattle.ratatui_core.specs.{Widgets.ChangesWithin, Buffer.IsReadyAt, Buffer.IsReadyFrom}
use Rattle.widget_paragraph.specs.{Reflow.columns_taken, Paragraphs.indent_of}
use Rattle.widget_paragraph.proofs.RowsLemmas.{FinishesRow}
use Rattle.widget_paragraph.proofs.paragraph.render_row.Given as goal

abbrev pub invariant-loop-grapheme : goal.invariant-loop-grapheme
invariant-loop-grapheme l = record {
  fits : l.used + columns_taken (drop l.grapheme-index l.fn.row) ≤ l.fn.part.width;
  within : ChangesWithin l.fn.part l.fn.buf l.buf;
  paints : FinishesRow (l.fn.part.y + l.fn.k) (l.fn.part.x + l.used) (drop l.grapheme-index l.fn.row)
      (l.fn.part.x + indent_of l.fn.alignment (columns_taken l.fn.row) l.fn.part.width)
      l.fn.row l.fn.buf l.buf;
  ready : IsReadyFrom (l.fn.part.y + l.fn.k) l.fn.buf → IsReadyAt (l.fn.part.x + l.used) (l.fn.part.y + l.fn.k) l.buf;
}
