use Rattle.ratatui_core.specs.Widgets.{ChangesWithin}
use Rattle.widget_scrollbar.specs.Scrollbars.{PaintsMarks}
use Rattle.widget_scrollbar.proofs.scrollbar.Marks.paint.Given as goal

abbrev pub invariant-loop-place : goal.invariant-loop-place
invariant-loop-place l = record {
  within : ChangesWithin l.fn.area l.fn.buf l.buf;
  painted : PaintsMarks l.fn.self l.fn.area l.place l.fn.buf l.buf;
}
