use Rattle.ratatui_core.specs.Buffer.{ChangesEach}
use Rattle.widget_sparkline.specs.Inner.{bar_style_at}
use Rattle.widget_sparkline.proofs.ColumnLemmas.{before}
use Rattle.widget_sparkline.proofs.sparkline.Bars.lay_own_styles.Given as goal

abbrev pub invariant-loop-x : goal.invariant-loop-x
invariant-loop-x l = ChangesEach (before l.fn.area l.x) (bar_style_at l.fn.self.sparkline.now l.fn.self.area) l.fn.buf l.buf
