use Rattle.std.proofs.Common.{◌≡◌, ◌+◌, drop}
use Rattle.std.specs.List.{prefix_len}
use Rattle.widget_paragraph.specs.Reflow.{is_break}
use Rattle.widget_paragraph.proofs.reflow.leading_blanks.Given as goal

abbrev pub invariant-loop-grapheme : goal.invariant-loop-grapheme
invariant-loop-grapheme l = record {
  count : l.count ≡ l.grapheme-index;
  left : l.count + prefix_len is_break (drop l.grapheme-index l.fn.graphemes) ≡ prefix_len is_break
      l.fn.graphemes;
}
