use Rattle.std.proofs.Common.{◌≡◌, ◌≤◌, length, drop}
use Rattle.widget_paragraph.specs.Reflow.{is_of_word, last_end}
use Rattle.widget_paragraph.proofs.reflow.words_end.Given as goal

abbrev pub invariant-loop-end : goal.invariant-loop-end
invariant-loop-end l = record {
  inside : l.end ≤ length l.fn.graphemes;
  none : last_end is_of_word (drop l.end l.fn.graphemes) ≡ 0;
}

abbrev pub decreases-loop-end : goal.decreases-loop-end
decreases-loop-end l = l.end
