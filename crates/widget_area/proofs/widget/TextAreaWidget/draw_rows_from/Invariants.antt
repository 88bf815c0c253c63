use Rattle.std.proofs.Common.{◌≡◌, ◌+◌, ◌-◌, ◌≤◌}
use Rattle.std.specs.Str.{IsCharBoundary}
use Rattle.text_area.specs.Lines.{feeds, nth_start}
use Rattle.text_area.specs.Areas.{area_text}
use Rattle.rtui_drawing.proofs.Laws.{Continues}
use Rattle.widget_area.specs.TextAreas.{numbered_rows_drawing}
use Rattle.widget_area.proofs.widget.TextAreaWidget.draw_rows_from.Given as goal

-- the rows that are left are to be drawn, and the next line begins here
abbrev pub invariant-loop-k : goal.invariant-loop-k
invariant-loop-k l = record {
  number : l.number ≡ l.fn.plan.top + l.k;
  within : l.number ≤ feeds (area_text l.fn.self.text.now);
  start : l.start ≡ nth_start l.number (area_text l.fn.self.text.now);
  boundary : IsCharBoundary (area_text l.fn.self.text.now) l.start;
  area : l.buf.area ≡ l.fn.buf.area;
  rest : Continues (numbered_rows_drawing l.fn.self l.fn.plan l.fn.inner.width l.k (l.fn.inner.height - l.k)) l.fn.inner
      (numbered_rows_drawing l.fn.self l.fn.plan l.fn.inner.width 0 l.fn.inner.height) l.fn.inner l.fn.buf l.buf;
}
