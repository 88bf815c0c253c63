use Rattle.std.proofs.Common.{◌≤◌, ◌+◌, All, length}
use Rattle.ratatui_core.specs.{Widgets.ChangesWithin, Buffer.IsReadyAt, Buffer.IsReadyFrom, Buffer.IsShort}
use Rattle.widget_paragraph.specs.{Inner.left_of_cut, Inner.IsCut, Reflow.columns_taken}
use Rattle.widget_paragraph.proofs.RowsLemmas.{FinishesRow}
use Rattle.widget_paragraph.proofs.paragraph.render_cut_row.Given as goal

abbrev pub invariant-loop-grapheme : goal.invariant-loop-grapheme
invariant-loop-grapheme l = record {
  cut : IsCut l.cut;
  fits : l.used + columns_taken (left_of_cut l.cut) ≤ l.fn.part.width;
  within : ChangesWithin l.fn.part l.fn.buf l.buf;
  paints : FinishesRow (l.fn.part.y + l.fn.k) (l.fn.part.x + l.used) (left_of_cut l.cut)
      (l.fn.part.x + l.fn.start) (left_of_cut l.fn.cut) l.fn.buf l.buf;
  ready : IsReadyFrom (l.fn.part.y + l.fn.k) l.fn.buf → IsReadyAt (l.fn.part.x + l.used) (l.fn.part.y + l.fn.k) l.buf;
  short : All (λ g. IsShort g.symbol) (left_of_cut l.fn.cut) → All (λ g. IsShort g.symbol) (left_of_cut l.cut);
}

abbrev pub decreases-loop-grapheme : goal.decreases-loop-grapheme
decreases-loop-grapheme l = length (left_of_cut l.cut)
