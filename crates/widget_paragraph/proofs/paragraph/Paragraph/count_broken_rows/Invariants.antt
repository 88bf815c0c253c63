use Rattle.std.proofs.Common.{◌≡◌, ◌≤◌, ◌+◌, min, length, Some, drop, ◌^◌, ◌-◌}
use Rattle.widget_paragraph.specs.Paragraphs.{rows_of_lines}
use Rattle.widget_paragraph.proofs.paragraph.Paragraph.count_broken_rows.Given as goal

abbrev pub invariant-loop-line : goal.invariant-loop-line
invariant-loop-line l = record {
  small : l.count ≤ 2 ^ 64 - 1;
  rows : min (l.count + length (rows_of_lines (Some l.fn.wrap) l.fn.self l.fn.width (drop l.line-index l.line-items)))
      (2 ^ 64 - 1)
      ≡ min (length (rows_of_lines (Some l.fn.wrap) l.fn.self l.fn.width l.fn.self.text.lines)) (2 ^ 64 - 1);
}
