use Rattle.ratatui_core.specs.Buffer.{ChangesEach}
use Rattle.widget_sparkline.specs.Inner.{mark_at}
use Rattle.widget_sparkline.proofs.ColumnLemmas.{before}
use Rattle.widget_sparkline.proofs.sparkline.Bars.put_marks.Given as goal

abbrev pub invariant-loop-x : goal.invariant-loop-x
invariant-loop-x l = ChangesEach (before l.fn.area l.x) (mark_at l.fn.self.sparkline.now l.fn.self.greatest l.fn.self.area) l.fn.buf
    l.buf
