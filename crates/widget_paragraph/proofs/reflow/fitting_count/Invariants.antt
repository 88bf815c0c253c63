use Rattle.std.proofs.Common.{◌≡◌, ◌+◌, ◌-◌, ◌≤◌, drop}
use Rattle.widget_paragraph.specs.Reflow.{count_fitting}
use Rattle.widget_paragraph.proofs.reflow.fitting_count.Given as goal

abbrev pub invariant-loop-grapheme : goal.invariant-loop-grapheme
invariant-loop-grapheme l = record {
  count : l.count ≡ l.grapheme-index;
  fits : l.used ≤ l.fn.width;
  left : l.count + count_fitting (l.fn.width - l.used) (drop l.grapheme-index l.fn.graphemes) ≡ count_fitting l.fn.width
      l.fn.graphemes;
}
