use Rattle.std.proofs.Common.{◌≡◌, ◌-◌, ◌≤◌}
use Rattle.std.specs.Str.{IsCharBoundary}
use Rattle.text_area.specs.Lines.{feeds, nth_start}
use Rattle.text_area.specs.Areas.{area_text}
use Rattle.rtui_drawing.proofs.Laws.{Continues}
use Rattle.widget_area.specs.TextAreas.{wrapped_lines_drawing}
use Rattle.widget_area.proofs.widget.TextAreaWidget.draw_wrapped_from.Given as goal

-- the lines that are left are to be drawn, and the next one begins here
abbrev pub invariant-loop-k : goal.invariant-loop-k
invariant-loop-k l = record {
  within : l.number ≤ feeds (area_text l.fn.self.text.now);
  start : l.start ≡ nth_start l.number (area_text l.fn.self.text.now);
  boundary : IsCharBoundary (area_text l.fn.self.text.now) l.start;
  area : l.buf.area ≡ l.fn.buf.area;
  rest : Continues (wrapped_lines_drawing l.fn.self l.fn.plan l.fn.inner l.begin l.number (l.fn.inner.height - l.k))
      l.fn.inner (wrapped_lines_drawing l.fn.self l.fn.plan l.fn.inner 0 l.fn.plan.top l.fn.inner.height) l.fn.inner
      l.fn.buf l.buf;
}
