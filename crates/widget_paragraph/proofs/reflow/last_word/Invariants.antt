use Rattle.std.proofs.Common.{◌≡◌, ◌≤◌, length, drop}
use Rattle.widget_paragraph.specs.Reflow.{is_break, last_end}
use Rattle.widget_paragraph.proofs.reflow.last_word.Given as goal

abbrev pub invariant-loop-start : goal.invariant-loop-start
invariant-loop-start l = record {
  inside : l.start ≤ length l.fn.graphemes;
  none : last_end is_break (drop l.start l.fn.graphemes) ≡ 0;
}

abbrev pub decreases-loop-start : goal.decreases-loop-start
decreases-loop-start l = l.start
