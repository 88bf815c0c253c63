use Rattle.std.proofs.Common.{◌≡◌, ◌+◌, min, length, ◌^◌, ◌-◌}
use Rattle.widget_paragraph.specs.{Inner.HoldsNext, Inner.left_of, Reflow.AllFit}
use Rattle.widget_paragraph.proofs.RowsLemmas.{rows_left}
use Rattle.widget_paragraph.proofs.paragraph.row_count.Given as goal

abbrev pub invariant-loop-line : goal.invariant-loop-line
invariant-loop-line l = record {
  line : HoldsNext l.line;
  width : l.line.width ≡ l.fn.line.width;
  trim : l.line.trim ≡ l.fn.line.trim;
  fit : AllFit l.fn.line.width (left_of l.line);
  rows : min (l.count + length (rows_left l.fn.line.width l.fn.line.trim (left_of l.line))) (2 ^ 64 - 1)
      ≡ min (length (rows_left l.fn.line.width l.fn.line.trim (left_of l.fn.line))) (2 ^ 64 - 1);
}

abbrev pub decreases-loop-line : goal.decreases-loop-line
decreases-loop-line l = length (left_of l.line)
