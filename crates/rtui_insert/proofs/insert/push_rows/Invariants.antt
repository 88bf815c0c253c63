use Rattle.std.proofs.Common.{◌≡◌}
use Rattle.rtui_buffer.specs.Shown.{IsSettledBuffer}
use Rattle.rtui_insert.specs.{Rows.IsBlankFor, Rows.RowsFit, Insertion.KeepsSizeAndVisibility, Scrolling.HasPushed}
use Rattle.rtui_insert.proofs.insert.push_rows.Given as goal

abbrev pub invariant-loop-row : goal.invariant-loop-row
invariant-loop-row g l = record {
  counts : g.B.Backend.failures l.backend ≡ g.B.Backend.failures l.fn.backend;
  shape : KeepsSizeAndVisibility (g.B.Backend.screen l.fn.backend) (g.B.Backend.screen l.backend);
  blank : IsBlankFor 1 l.rows l.blank;
  same : l.blank.area ≡ l.fn.blank.area;
  pushed : RowsFit l.rows 1 0 (g.B.Backend.screen l.fn.backend) → IsSettledBuffer l.rows
      → HasPushed l.rows l.row (g.B.Backend.screen l.fn.backend) (g.B.Backend.screen l.backend);
}
