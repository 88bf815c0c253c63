use Rattle.std.proofs.Common.{◌≡◌, ◌≤◌, ◌+◌, min, drop}
use Rattle.widget_paragraph.specs.Reflow.{columns_taken}
use Rattle.widget_paragraph.proofs.reflow.columns_of.Given as goal

abbrev pub invariant-loop-grapheme : goal.invariant-loop-grapheme
invariant-loop-grapheme l = record {
  small : l.columns ≤ 65535;
  sum : min (l.columns + columns_taken (drop l.grapheme-index l.fn.row)) 65535 ≡ min
      (columns_taken l.fn.row) 65535;
}
